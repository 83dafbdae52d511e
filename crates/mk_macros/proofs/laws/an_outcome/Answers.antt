use Rattle.mk_profile.specs.Profile.{is_wide}
use Rattle.mk_macros.proofs.SomeOutcomeLemmas.{outcome_some}
use Rattle.mk_macros.proofs.laws.an_outcome.Goals as goal

pub returns : goal.returns
returns c = λ listed line text. outcome_some (is_wide listed.language) listed.texts line text
