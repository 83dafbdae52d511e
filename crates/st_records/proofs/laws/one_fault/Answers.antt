use Rattle.st_records.specs.Forms.{form_of}
use Rattle.st_records.proofs.FaultLemmas.{one_fault_lem, no_fault_lem}
use Rattle.st_records.proofs.laws.one_fault.Goals as goal

pub returns-clause-one : goal.returns-clause-one
returns-clause-one c = λ version. one_fault_lem (form_of version)

pub returns-clause-none : goal.returns-clause-none
returns-clause-none c = λ version. no_fault_lem (form_of version)
