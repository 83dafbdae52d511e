use Rattle.std.proofs.Common.{◌≡◌, drop}
use Rattle.st_memory.specs.PowerCut.{is_written}
use Rattle.st_memory.proofs.power_cut.holds_place.Given as goal

abbrev pub invariant-loop-at : goal.invariant-loop-at
invariant-loop-at l = is_written (drop l.at-index l.ranges) l.place ≡ is_written l.ranges l.place
