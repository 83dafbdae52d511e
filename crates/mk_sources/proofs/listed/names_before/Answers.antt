use Rattle.mk_sources.proofs.PlaceLemmas.{front-next}
use Rattle.mk_sources.proofs.listed.names_before.Goals as goal

pub loop-number-preserved : goal.loop-number-preserved
loop-number-preserved c = front-next _ _ c.args.names.now c.loop-number.number c.in_ok-push_at.ensures c.loop-number.invariant
