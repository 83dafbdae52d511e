use Rattle.std.proofs.Common.{sym, subst}
use Rattle.dmk_parts.proofs.BehindLemmas.{AreKnownSoFar, known_more}
use Rattle.dmk_parts.proofs.clearing.known_names.Goals as goal

pub loop-name-preserved : goal.loop-name-preserved
loop-name-preserved c =
    subst (λ known. AreKnownSoFar c.args.made.now known c.next.new.self) (sym c.in_ok-mention.ensures.ok)
    (known_more c.args.made.now c.loop-name.known c.next.new.self c.in-Some.name.now
    (subst (AreKnownSoFar c.args.made.now c.loop-name.known) c.in-Some.ensures.steps c.loop-name.invariant))
