use Rattle.st_records.specs.Forms.{form_of}
use Rattle.st_records.proofs.FaultLemmas.{answer_lem}
use Rattle.st_records.proofs.laws.each_answered.Goals as goal

pub returns : goal.returns
returns c = λ version. answer_lem (form_of version)
