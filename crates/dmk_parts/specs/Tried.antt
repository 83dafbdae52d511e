-- What a part of a run tried: what was built, with a file and without one, and what failed. Own.
use Rattle.std.specs.Prelude.{◌≡◌, ◌↔◌, ◌++◌, ◌<◌, ℕ, true, List, map, Some, None, length, slice_get}
use Rattle.std.specs.List.{All}
use Rattle.mk_names.specs.Names.{name_at, has_name}
use Rattle.mk_nodes.specs.declared.graph.Graph.{Graph}
use Rattle.mk_nodes.specs.declared.graph.Node.{Node}
use Rattle.bd_places.specs.declared.end.End.{End}
use Rattle.bd_places.specs.declared.end.End.TheVariants.{Built, Failed}
use Rattle.dmk_parts.specs.Behind.{both_tried}
use Rattle.dmk_parts.specs.declared.left.Left.{Left}
use Rattle.dmk_parts.specs.declared.made.Made.{Made}
use Rattle.dmk_parts.specs.declared.tried.Tried.{Tried}

-- a name's recipe was run to its end
pub record IsBuilt (graph : Graph) (ends : List End) (name : List ℕ) : Type 0 where
  pub node : ℕ
  pub within : node < length graph.nodes.items
  pub named : name_at graph.names node ≡ name
  pub built : slice_get ends node ≡ Some Built

-- so it is of one that had no file
pub record IsBuiltWithoutFile (graph : Graph) (ends : List End) (name : List ℕ) : Type 0 where
  pub node : ℕ
  pub it : Node
  pub is_node : slice_get graph.nodes.items node ≡ Some it
  pub named : name_at graph.names node ≡ name
  pub no_file : it.stamp ≡ None
  pub built : slice_get ends node ≡ Some Built

-- to some names others are added, each of which was built where all of these were
pub record AddsSome (made : List Made) (before now : List (List ℕ)) : Type 0 where
  pub added : List (List ℕ)
  pub adds : now ≡ before ++ added
  pub are_built : (graph : Graph) (ends : List End) → All (λ m. IsBuiltWithoutFile graph ends m.name) made → All (IsBuiltWithoutFile graph ends) added

-- to some names others are added, some of which were built so, and behind them all of those
pub record AddsBoth (made : List Made) (filed : List (List ℕ)) (before now : List (List ℕ)) : Type 0 where
  pub between : List (List ℕ)
  pub some : AddsSome made before between
  pub adds : now ≡ between ++ filed

-- a name that failed: its recipe did
pub record HasFailed (graph : Graph) (ends : List End) (name : List ℕ) : Type 0 where
  pub node : ℕ
  pub status : ℕ
  pub within : node < length graph.nodes.items
  pub named : name_at graph.names node ≡ name
  pub failed : slice_get ends node ≡ Some (Failed status)

-- these names are all that failed, and no others
abbrev pub AreFailed : (graph : Graph) → (ends : List End) → (failed : List (List ℕ)) → Type 0
AreFailed graph ends failed = (name : List ℕ) → (has_name failed name ≡ true) ↔ HasFailed graph ends name

-- of a graph that ended so each of these was built, and of some had no file, and these are all that failed
pub record AreTried (graph : Graph) (ends : List End) (tried : Tried) : Type 0 where
  pub are_built : All (IsBuiltWithoutFile graph ends) tried.built
  pub are_filed : All (IsBuilt graph ends) tried.filed
  pub are_failed : AreFailed graph ends tried.failed

-- the names that are left to parts behind: what was built without a file, and what failed
abbrev pub tried_in : Left → Tried
tried_in left = record { built = map (λ m. m.name) left.made.items; filed = left.filed; failed = left.failed }

-- to what was tried before others are added, which were tried wherever those that are left were
pub record AddsTried (left : Left) (before now : Tried) : Type 0 where
  pub added : Tried
  pub adds : now ≡ both_tried before added
  pub are_tried : (graph : Graph) (ends : List End) → AreTried graph ends (tried_in left) → AreTried graph ends added
