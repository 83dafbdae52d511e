use Rattle.std.proofs.Common.{◌≡◌, ℕ, nat_lt, ◌&&◌, not, false, []}
use Rattle.mk_graph.specs.Edges.{has}
use Rattle.mk_names.specs.Names.{name_at}
use Rattle.mk_graph.specs.Numbering.{AreDescribed}
use Rattle.mk_edges.specs.Known.{IsKnown}
use Rattle.mk_nodes.specs.Prerequisites.{Inputs, is_made}
use Rattle.mk_rules.proofs.unmade.unmade_nodes.Given as goal

abbrev pub invariant-loop-node : goal.invariant-loop-node
invariant-loop-node l = record {
  unmade : (inputs : Inputs) → inputs.lines ≡ l.lines → AreDescribed (IsKnown inputs) l.numbered.names l.numbered.nodes.items →
      (n : ℕ) → has l.nodes.items n ≡ (nat_lt n l.node && not (is_made inputs (name_at l.numbered.names n)));
  made : l.goes_on ≡ false → l.nodes.items ≡ [];
}
