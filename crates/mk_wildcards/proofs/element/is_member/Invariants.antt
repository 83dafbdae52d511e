use Rattle.std.proofs.Common.{◌≡◌, length}
use Rattle.mk_wildcards.specs.Pattern.{is_member}
use Rattle.mk_wildcards.proofs.element.is_member.Given as goal

abbrev pub invariant-loop-low : goal.invariant-loop-low
invariant-loop-low l = is_member l.rest l.byte ≡ is_member l.members l.byte

abbrev pub decreases-loop-low : goal.decreases-loop-low
decreases-loop-low l = length l.rest
