use Rattle.std.proofs.Common.{◌≡◌, ◌+◌, ◌-◌, ◌≤◌, length, drop}
use Rattle.std.specs.List.{position_or_len}
use Rattle.mk_wildcards.specs.Found.{is_slash}
use Rattle.mk_wildcards.proofs.parts.part_len.Given as goal

abbrev pub invariant-loop-count : goal.invariant-loop-count
invariant-loop-count l =
    (l.count ≤ length l.path) × (l.count + position_or_len is_slash (drop l.count l.path) ≡ position_or_len is_slash l.path)

abbrev pub decreases-loop-count : goal.decreases-loop-count
decreases-loop-count l = length l.path - l.count
