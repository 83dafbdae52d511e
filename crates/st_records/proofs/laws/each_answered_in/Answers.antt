use Rattle.st_records.proofs.FaultLemmas.{answer_lem}
use Rattle.st_records.proofs.laws.each_answered_in.Goals as goal

pub returns : goal.returns
returns c = answer_lem
