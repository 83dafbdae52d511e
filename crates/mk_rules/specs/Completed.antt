-- What becomes of what is found of a name once its prerequisites have numbers.
use Rattle.std.specs.Prelude.{◌≡◌, ℕ, Bool, List, length, filter, map, drop}
use Rattle.mk_names.specs.Names.{all_added}
use Rattle.mk_nodes.specs.Prerequisites.{distinct}
use Rattle.mk_nodes.specs.Node.{hidden_marks}
use Rattle.mk_nodes.specs.Rare.{with_marks}
use Rattle.mk_nodes.specs.declared.graph.Node.{Node}
use Rattle.mk_sources.specs.Seen.{order_only_in, rare_in}
use Rattle.mk_sources.specs.declared.known.Seen.{Seen}

-- a node to which hidden prerequisites came
pub record IsAsSeen (seen : Seen) (known : Node) : Type 0 where
  pub stamp : known.stamp ≡ seen.stamp
  pub recipe : known.recipe ≡ seen.ruled.recipe
  pub rare : known.rare ≡ with_marks known.rare.marks (rare_in seen.ruled.given)

-- the names of the row, and the node: with hidden prerequisites behind the hard ones, and then the order-only ones
pub record IsNumberedAs (is_node : List ℕ → Bool) (seen : Seen) (hard hidden row : List (List ℕ)) (known : Node) : Type 0 where
  pub row_is : row ≡ all_added (all_added (distinct hard) (filter is_node hidden)) (order_only_in seen.ruled.given)
  pub count : known.hard ≡ length (distinct hard)
  pub among : hidden_marks known ≡ map is_node (drop (length (distinct hard)) (all_added (distinct hard) hidden))
  pub as_seen : IsAsSeen seen known
