use Rattle.std.proofs.Common.{◌≡◌, ◌+◌, ◌≤◌, length, take}
use Rattle.std.specs.List.{suffix_len}
use Rattle.mk_depfiles.specs.Place.{is_not}
use Rattle.mk_depfiles.proofs.place.len_behind_last.Given as goal

abbrev pub invariant-loop-end : goal.invariant-loop-end
invariant-loop-end l =
    (l.end ≤ length l.text) × (l.end + suffix_len (is_not l.byte) l.text ≡ length l.text + suffix_len (is_not l.byte) (take l.end l.text))

abbrev pub decreases-loop-end : goal.decreases-loop-end
decreases-loop-end l = l.end
