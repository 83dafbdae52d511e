use Rattle.std.proofs.Common.{subst}
use Rattle.mk_assignments.specs.Line.{Says}
use Rattle.mk_assignments.proofs.ReadingLemmas.{said_is, said_met}
use Rattle.mk_assignments.proofs.laws.each_line_is_as_it_is_spelled.Goals as goal

pub returns : goal.returns
returns c = λ text told. (λ e. subst (Says text) e (said_is text), λ is. said_met text told is)
