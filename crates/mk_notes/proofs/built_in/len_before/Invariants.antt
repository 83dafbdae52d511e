use Rattle.std.proofs.Common.{◌≡◌, ◌+◌, ◌-◌, ◌≤◌, length, drop}
use Rattle.std.specs.List.{prefix_len}
use Rattle.mk_notes.specs.BuiltIn.{differs}
use Rattle.mk_notes.proofs.built_in.len_before.Given as goal

abbrev pub invariant-loop-count : goal.invariant-loop-count
invariant-loop-count l =
    (l.count ≤ length l.bytes) × (l.count + prefix_len (differs l.closing) (drop l.count l.bytes) ≡ prefix_len (differs l.closing) l.bytes)

abbrev pub decreases-loop-count : goal.decreases-loop-count
decreases-loop-count l = length l.bytes - l.count
