use Rattle.mk_plan.proofs.SimpleLemmas.{next_kept}
use Rattle.mk_plan.proofs.simple.takes_kept.Goals as goal

pub returns-in-Some-next : goal.returns-in-Some-next
returns-in-Some-next c =
    next_kept c.args.expanded.now c.in-Some.kept.now c.in-Some-next.command.now c.args.commands.now c.next.new.self c.is_same.result c.in-Some.ensures
    c.in-Some-next.ensures.steps c.is_same.ensures
