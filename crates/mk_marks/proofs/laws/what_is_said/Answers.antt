use Rattle.mk_marks.proofs.SaidLemmas.{said_of, text_of_said}
use Rattle.mk_marks.proofs.laws.what_is_said.Goals as goal

pub returns-clause-written : goal.returns-clause-written
returns-clause-written c = λ source marks text is. said_of source marks text is

pub returns-clause-read : goal.returns-clause-read
returns-clause-read c = λ source marks text fits is. text_of_said source marks text fits is
