-- A run in which no recipe is to be run. Own.
use Rattle.std.specs.Prelude.{◌≡◌, Bool, true}
use Rattle.mk_nodes.specs.declared.graph.Graph.{Graph}
use Rattle.st_state.specs.State.{StateMap}
use Rattle.dmk_reading.specs.Passing.{ListsNone}
use Rattle.dmk_run.specs.Known.{AreKnownDone}

-- a dry run lists no recipe of the graph. Where state is kept, it knows each node that has a recipe as done
pub record IsNoneToRun (counting keeping : Bool) (graph : Graph) (m : StateMap) : Type 0 where
  pub listing : ListsNone counting graph
  pub known : keeping ≡ true → AreKnownDone graph m
