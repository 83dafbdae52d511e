use Rattle.st_recovery.proofs.RecoversLemmas.{chosen_by_version}
use Rattle.st_recovery.proofs.recovery.ChosenIn.by_version.Goals as goal

pub returns-clause-chosen : goal.returns-clause-chosen
returns-clause-chosen c = λ a b chosen. chosen_by_version a b _ _ _ _ _ _ _ _ c.by_version.ensures.form c.by_version.ensures.generation c.by_version.ensures.end chosen
