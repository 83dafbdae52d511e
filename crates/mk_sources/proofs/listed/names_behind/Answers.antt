use Rattle.mk_sources.proofs.PlaceLemmas.{behind-next}
use Rattle.mk_sources.proofs.listed.names_behind.Goals as goal

pub loop-number-preserved : goal.loop-number-preserved
loop-number-preserved c = behind-next _ _ c.args.names.now _ c.loop-number.number c.in_ok-push_at.ensures c.loop-number.invariant
