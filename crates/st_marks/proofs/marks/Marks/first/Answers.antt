use Rattle.st_marks.proofs.PartLemmas.{given_first, left_behind}
use Rattle.st_marks.proofs.marks.Marks.first.Goals as goal

pub returns-clause-first : goal.returns-clause-first
returns-clause-first c = given_first c.next.result c.args.self.now c.next.new.self c.next.ensures.steps

pub returns-clause-left : goal.returns-clause-left
returns-clause-left c = left_behind c.next.result c.args.self.now c.next.new.self c.next.ensures.steps
