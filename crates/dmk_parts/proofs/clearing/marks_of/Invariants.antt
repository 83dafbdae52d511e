use Rattle.std.proofs.Common.{◌≡◌, ◌<◌, ℕ, Some, length, slice_get}
use Rattle.mk_names.specs.Names.{name_at}
use Rattle.mk_nodes.specs.declared.graph.Node.{Node}
use Rattle.dmk_parts.specs.Behind.{is_cleared_by}
use Rattle.dmk_parts.proofs.clearing.marks_of.Given as goal

abbrev pub invariant-loop-node : goal.invariant-loop-node
invariant-loop-node l = record {
  count : length l.marks.items ≡ l.node;
  marked : (n : ℕ) (it : Node) → n < l.node → slice_get l.graph.nodes.items n ≡ Some it →
      slice_get l.marks.items n ≡ Some (is_cleared_by l.built l.unmade l.filed l.moved (name_at l.graph.names n) n it);
}
