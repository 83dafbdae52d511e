use Rattle.mk_plan.proofs.SimpleLemmas.{given_simply}
use Rattle.mk_plan.proofs.kept.is_kept_so.Goals as goal

pub returns-then-gives_simply : goal.returns-then-gives_simply
returns-then-gives_simply c =
    given_simply c.args.graph.now c.args.marks.now c.args.node c.args.line.now _ _ c.args.commands.now c.lines.ensures c.iter.ensures
    c.if-gives_simply.ensures
