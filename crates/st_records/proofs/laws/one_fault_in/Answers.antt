use Rattle.st_records.proofs.FaultLemmas.{one_fault_lem, no_fault_lem}
use Rattle.st_records.proofs.laws.one_fault_in.Goals as goal

pub returns-clause-one : goal.returns-clause-one
returns-clause-one c = one_fault_lem

pub returns-clause-none : goal.returns-clause-none
returns-clause-none c = no_fault_lem
