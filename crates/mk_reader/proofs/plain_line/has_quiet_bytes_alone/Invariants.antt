use Rattle.std.proofs.Common.{◌≡◌, ◌-◌, ◌≤◌, ◌&&◌, length, drop}
use Rattle.std.specs.List.{list_all}
use Rattle.mk_reader.specs.Plain.{is_quiet}
use Rattle.mk_reader.proofs.plain_line.has_quiet_bytes_alone.Given as goal

abbrev pub invariant-loop-at : goal.invariant-loop-at
invariant-loop-at l = (l.at ≤ length l.bytes) × ((l.is_alone && list_all is_quiet (drop l.at l.bytes)) ≡ list_all is_quiet l.bytes)

abbrev pub decreases-loop-at : goal.decreases-loop-at
decreases-loop-at l = length l.bytes - l.at
