use Rattle.std.proofs.Common.{◌≡◌, length}
use Rattle.mk_edges.specs.Required.{IsRequiredRow}
use Rattle.mk_edges.specs.Rows.{EachRow}
use Rattle.mk_edges.proofs.required.required_rows.Given as goal

abbrev pub invariant-loop-node : goal.invariant-loop-node
invariant-loop-node l = record {
  count : length l.required ≡ l.node;
  each : EachRow (IsRequiredRow l.names l.hard l.known) l.required;
}
