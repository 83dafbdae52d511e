use Rattle.std.proofs.Common.{◌≡◌, ◌++◌, length}
use Rattle.mk_eval.specs.Static.{with_stem}
use Rattle.mk_eval.proofs.stem.push_with_stem.Given as goal

abbrev pub invariant-loop-byte : goal.invariant-loop-byte
invariant-loop-byte l = l.out.items ++ with_stem l.stem l.rest ≡ l.fn.out.items ++ with_stem l.stem l.word

abbrev pub decreases-loop-byte : goal.decreases-loop-byte
decreases-loop-byte l = length l.rest
