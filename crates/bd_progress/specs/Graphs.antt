-- The edges that a board is made with where the order of a graph was found. Own.
use Rattle.std.specs.Prelude.{◌≡◌, ℕ, Bool, true, List, length}
use Rattle.mk_graph.specs.Edges.{is_closed}
use Rattle.mk_graph.specs.Cycle.{HasCycle}
use Rattle.mk_graph.specs.Counted.{AreSets, IsDropped, counting}
use Rattle.bd_progress.specs.NeverStuck.{AreOrdered}

-- where the hard edges make no cycle, and soft ones were dropped just where they would make one, the edges that count are ordered, each
-- row's numbers taken once
abbrev pub CountedAreOrdered : Type 0
CountedAreOrdered =
    (hard soft counted : List (List ℕ)) (dropped : Bool) → is_closed hard ≡ true → is_closed soft ≡ true → length soft ≡ length hard
    → (HasCycle hard → ⊥) → IsDropped hard soft dropped → AreSets (counting hard soft dropped) counted
    → AreOrdered (record { counted = counted; hard = hard })
