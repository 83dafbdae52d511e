use Rattle.mk_target_lines.proofs.LawLemmas.{comes_once}
use Rattle.mk_target_lines.proofs.laws.one_outcome.Goals as goal

pub returns : goal.returns
returns c = λ w variables recipe text one other x y. comes_once w variables (c.one_outcome.ensures w variables) recipe text one other x y
