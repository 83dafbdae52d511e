-- Where the nodes of a graph stand. Own.
use Rattle.std.specs.Prelude.{◌≡◌, ℕ, ◌+◌, Bool, true, false, not, ◌||◌, List, [], ◌∷◌, length, replicate, None}
use Rattle.mk_graph.specs.Edges.{row, has}
use Rattle.bd_links.specs.declared.stand.Stand.{Stand}
use Rattle.bd_links.specs.declared.stand.Stand.TheVariants.{Waiting, Ready, Running, Unflushed, Flushing, Settled}
use Rattle.bd_links.specs.SixLists.{SixLists, list_in, moved, joined, split_by}
use Rattle.bd_places.specs.Settling.{Prerequisites, Standing, is_under_way}

-- the nodes' prerequisites, where they stand and how they ended, and how often Unflushed was joined to Flushing
pub record Placed : Type 0 where
  pub prerequisites : Prerequisites
  pub joins : ℕ
  pub standing : Standing

abbrev pub nodes_of : Placed → ℕ
nodes_of p = length p.prerequisites.counted

abbrev pub holds_any : List ℕ → Bool
holds_any [] = false
holds_any (n ∷ ns) = true

-- Waiting or Ready holds a node
abbrev pub waits_in : SixLists → Bool
waits_in l = holds_any l.waiting || holds_any l.ready

-- the node is in one of the lists of nodes that have begun to be made, or can be
abbrev pub IsUnderWay : SixLists → ℕ → Type 0
IsUnderWay l n = (s : Stand) × (is_under_way s ≡ true) × (has (list_in l s) n ≡ true)

-- the lists of nodes that can settle: a record in Unflushed is drained first
abbrev pub is_open : Stand → Bool
is_open Waiting = true
is_open Ready = true
is_open Running = true
is_open Unflushed = false
is_open Flushing = true
is_open Settled = false

abbrev pub IsOpen : SixLists → ℕ → Type 0
IsOpen l n = (s : Stand) × (is_open s ≡ true) × (has (list_in l s) n ≡ true)

-- the node goes to the end of a list
abbrev pub placed_in : ℕ → Stand → Placed → Placed
placed_in n to p = record p { standing = record p.standing { lists = moved n to p.standing.lists } }

-- all of Unflushed goes to the end of Flushing
abbrev pub placed_joined : Placed → Placed
placed_joined p = record p { joins = p.joins + 1; standing = record p.standing { lists = joined p.standing.lists } }

-- the node waits for nothing
abbrev pub is_ready_first : Prerequisites → ℕ → Bool
is_ready_first g n = not (holds_any (row g.counted n))

-- where the nodes stand at first: in Ready those that wait for nothing, in Waiting the others
abbrev pub first_standing : Prerequisites → Standing
first_standing g = record { lists = split_by (is_ready_first g) (length g.counted); ends = replicate (length g.counted) None }

abbrev pub first_placed : Prerequisites → Placed
first_placed g = record { prerequisites = g; joins = 0; standing = first_standing g }
