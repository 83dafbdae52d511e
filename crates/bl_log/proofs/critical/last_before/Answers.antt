use Rattle.bl_log.proofs.CriticalLemmas.{last_known}
use Rattle.bl_log.proofs.critical.last_before.Goals as goal

pub is_longer-requires-clause-first : goal.is_longer-requires-clause-first
is_longer-requires-clause-first c =
    last_known c.args.spans.now c.args.row.now c.args.sums.now c.args.number c.loop-prerequisite.prerequisite-index c.loop-prerequisite.found c.requires.sums c.loop-prerequisite.invariant
