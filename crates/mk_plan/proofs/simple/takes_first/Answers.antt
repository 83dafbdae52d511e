use Rattle.mk_plan.proofs.SimpleLemmas.{first_if}
use Rattle.mk_plan.proofs.simple.takes_first.Goals as goal

pub returns-then-is_its_own : goal.returns-then-is_its_own
returns-then-is_its_own c = first_if c.args.raw.now c.as_slice-text.result.now c.args.commands.now c.takes_kept.new.commands c.takes_kept.result
    c.as_slice-text.ensures c.if-is_its_own.ensures c.takes_kept.ensures
