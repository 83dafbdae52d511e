use Rattle.mk_lines.proofs.CutLemmas.{split_none, split_some}
use Rattle.mk_lines.proofs.reference.split_outside.Goals as goal

pub returns-in-Some : goal.returns-in-Some
returns-in-Some c =
    let parts = split_some c.args.byte c.requires c.args.text.now c.first_outside.result c.in-Some.at c.first_outside.ensures.found c.in-Some.is in
    rw (c.around.ensures.left, c.around.ensures.right) parts

pub returns-in-None : goal.returns-in-None
returns-in-None c = split_none c.args.byte c.requires c.args.text.now c.first_outside.result c.first_outside.ensures.found c.in-None.is
