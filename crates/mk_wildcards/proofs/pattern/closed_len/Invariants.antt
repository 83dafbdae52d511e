use Rattle.std.proofs.Common.{◌≡◌, ◌+◌, ◌-◌, ◌≤◌, length, drop}
use Rattle.std.specs.List.{position_or_len}
use Rattle.mk_wildcards.specs.Pattern.{is_close}
use Rattle.mk_wildcards.proofs.pattern.closed_len.Given as goal

abbrev pub invariant-loop-count : goal.invariant-loop-count
invariant-loop-count l =
    (l.count ≤ length l.text) × (l.count + position_or_len is_close (drop l.count l.text) ≡ position_or_len is_close l.text)

abbrev pub decreases-loop-count : goal.decreases-loop-count
decreases-loop-count l = length l.text - l.count
