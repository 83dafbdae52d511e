use Rattle.st_file.proofs.ReadingLemmas.{IfSome-one}
use Rattle.st_file.proofs.side.side_of.Goals as goal

pub returns-clause-only : goal.returns-clause-only
returns-clause-only c = IfSome-one _ _ _ c.collected.ensures.found
