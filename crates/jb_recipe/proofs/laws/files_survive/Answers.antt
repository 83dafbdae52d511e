use Rattle.jb_recipe.proofs.SurviveLemmas.{survive}
use Rattle.jb_recipe.proofs.laws.files_survive.Goals as goal

pub returns : goal.returns
returns c = survive
