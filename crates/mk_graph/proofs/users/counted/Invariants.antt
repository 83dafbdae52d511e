use Rattle.std.proofs.Common.{◌≡◌, ℕ, ◌<◌, ◌≤◌, length, take, slice_index, sum}
use Rattle.mk_graph.specs.Edges.{times}
use Rattle.mk_graph.proofs.users.counted.Given as goal

abbrev pub invariant-loop-number : goal.invariant-loop-number
invariant-loop-number l = record {
  nodes : length l.counts.items ≡ l.nodes;
  counted : (n : ℕ) → n < l.nodes → slice_index l.counts.items n ≡ times n (take l.number-index l.numbers);
  within : sum l.counts.items ≤ l.number-index;
}
