use Rattle.mk_sources.proofs.PlaceLemmas.{mentioned-next}
use Rattle.mk_sources.proofs.made.mention_front.Goals as goal

pub loop-number-preserved : goal.loop-number-preserved
loop-number-preserved c = mentioned-next _ _ _ c.args.mentioned.now c.loop-number.number c.in_ok-mention_at.ensures c.loop-number.invariant
