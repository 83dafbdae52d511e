-- What is kept of numbered names without their rows.
use Rattle.std.specs.Prelude.{◌≡◌, ℕ, List}
use Rattle.mk_graph.specs.declared.numbering.Numbered.{Numbered}
use Rattle.mk_nodes.specs.declared.graph.Node.{Node}
use Rattle.mk_rules.specs.declared.nodes.Named.{Named}

-- the names, goals and nodes are those that were found, and these are the nodes that nothing makes
pub record IsNamedOf (n : Numbered Node) (lacking : List ℕ) (named : Named) : Type 0 where
  pub names : named.names ≡ n.names
  pub goals : named.goals.items ≡ n.goals.items
  pub nodes : named.nodes.items ≡ n.nodes.items
  pub unmade : named.unmade.items ≡ lacking
