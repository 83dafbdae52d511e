-- A graph and the parts that it is put together from.
use Rattle.std.specs.Prelude.{◌≡◌, List}
use Rattle.mk_settings.specs.Goals.{settings_of}
use Rattle.st_state.specs.State.{StateMap}
use Rattle.mk_nodes.specs.declared.graph.Graph.{Graph}
use Rattle.mk_rules.specs.declared.nodes.Named.{Named}
use Rattle.mk_edges.specs.declared.ordering.Ordered.{Ordered}
use Rattle.mk_rule_lines.specs.declared.rule_line.RuleLine.{RuleLine}

-- the graph has these lines, names, nodes and edges and this state
pub record IsPutTogether (lines : List RuleLine) (n : Named) (o : Ordered) (state : StateMap) (graph : Graph) : Type 0 where
  pub lines_are : graph.lines.items ≡ lines
  pub names : graph.names ≡ n.names
  pub goals : graph.goals.items ≡ n.goals.items
  pub nodes : graph.nodes.items ≡ n.nodes.items
  pub unmade : graph.unmade.items ≡ n.unmade.items
  pub hard : graph.hard ≡ o.hard
  pub required : graph.required ≡ o.required
  pub soft : graph.soft ≡ o.soft
  pub dropped : graph.soft_dropped ≡ o.soft_dropped
  pub order : graph.order.items ≡ o.order.items
  pub settings : graph.settings ≡ settings_of lines
  pub recorded : graph.state ≡ state
