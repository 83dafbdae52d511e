use Rattle.mk_profile.specs.Profile.{is_wide}
use Rattle.mk_macros.proofs.OutcomeLemmas.{same_outcome}
use Rattle.mk_macros.proofs.laws.one_outcome.Goals as goal

pub returns : goal.returns
returns c = λ profile meaning opened made text a b x y. same_outcome (is_wide profile) meaning x y
