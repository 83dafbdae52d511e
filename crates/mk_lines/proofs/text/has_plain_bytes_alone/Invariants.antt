use Rattle.std.proofs.Common.{◌≡◌, ◌-◌, ◌≤◌, ◌&&◌, length, drop}
use Rattle.std.specs.List.{list_all}
use Rattle.mk_lines.specs.Text.{is_plain}
use Rattle.mk_lines.proofs.text.has_plain_bytes_alone.Given as goal

abbrev pub invariant-loop-at : goal.invariant-loop-at
invariant-loop-at l = (l.at ≤ length l.bytes) × ((l.is_alone && list_all is_plain (drop l.at l.bytes)) ≡ list_all is_plain l.bytes)

abbrev pub decreases-loop-at : goal.decreases-loop-at
decreases-loop-at l = length l.bytes - l.at
