use Rattle.std.proofs.Common.{◌≡◌, ◌<◌, true, take, length, nat_le, slice_index}
use Rattle.std.specs.List.{list_all}
use Rattle.mk_graph.proofs.cycles.place_of_least.Given as goal

abbrev pub invariant-loop-place : goal.invariant-loop-place
invariant-loop-place l = record {
  within : l.least < length l.numbers;
  smallest : list_all (nat_le (slice_index l.numbers l.least)) (take l.place l.numbers) ≡ true;
}
