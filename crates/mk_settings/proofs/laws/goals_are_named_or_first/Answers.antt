use Rattle.mk_settings.proofs.OwnGoalLemmas.{goals_are, goals_told}
use Rattle.mk_settings.proofs.laws.goals_are_named_or_first.Goals as goal

pub returns : goal.returns
returns c = λ lines named goals. (goals_are lines named goals, goals_told lines named goals)
