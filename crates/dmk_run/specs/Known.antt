-- What a state knows of the targets of a graph. Own.
use Rattle.std.specs.Prelude.{◌≡◌, ◌⊎◌, ℕ, Bool, true, List, Some, IsSome, slice_get}
use Rattle.std.specs.FinMap as map
use Rattle.mk_names.specs.Names.{name_at}
use Rattle.mk_nodes.specs.declared.graph.Graph.{Graph}
use Rattle.mk_nodes.specs.declared.graph.Node.{Node}
use Rattle.st_records.specs.declared.record.Entry.{Entry}
use Rattle.st_records.specs.declared.record.Phase.TheVariants as phases
use Rattle.st_state.specs.State.{StateMap}
use Rattle.jb_closing.specs.declared.report.Report.{Report}
use Rattle.dmk_run.specs.Judged.{AreJudged}

-- the state knows the target as done
abbrev pub IsKnownDone : StateMap → (target : List ℕ) → Type 0
IsKnownDone m target = (entry : Entry) × (map.get m target ≡ Some entry) × (entry.phase ≡ phases.Done)

-- so it knows this node, if it has a recipe
abbrev pub IsNodeKnownDone : Graph → StateMap → (node : ℕ) → Type 0
IsNodeKnownDone graph m node =
    (it : Node) → slice_get graph.nodes.items node ≡ Some it → IsSome it.recipe → IsKnownDone m (name_at graph.names node)

-- and so each node of the graph that has one
abbrev pub AreKnownDone : Graph → StateMap → Type 0
AreKnownDone graph m = (node : ℕ) → IsNodeKnownDone graph m node

-- a report as it is told of a closed store: that of the run, but that a status of 0 becomes 1 where a node that wasn't built isn't
-- judged so, or where state is kept and the store's doesn't bear it out
pub record IsTold (graph : Graph) (counting keeping : Bool) (m : StateMap) (given told : Report) : Type 0 where
  pub ends : told.ends.items ≡ given.ends.items
  pub status : (told.status ≡ given.status) ⊎ ((given.status ≡ 0) × (told.status ≡ 1))
  pub known : keeping ≡ true → told.status ≡ 0 → AreKnownDone graph m
  pub same : told.same.items ≡ given.same.items
  pub judged : told.status ≡ 0 → AreJudged counting graph told.ends.items told.same.items
