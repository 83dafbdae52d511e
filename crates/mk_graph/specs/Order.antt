-- What orders the nodes of a graph. Own.
use Rattle.std.specs.Prelude.{ℕ, Bool, List}
use Rattle.mk_graph.specs.Counted.{counting}
use Rattle.mk_graph.specs.Cycle.{IsCycle, HasCycle}
use Rattle.mk_graph.specs.Plan.{IsPlan}
use Rattle.mk_graph.specs.declared.cycles.Order.{Order}
use Rattle.mk_graph.specs.declared.cycles.Order.TheVariants.{Plan, Cycle}

-- the plan of a graph without a cycle, or a cycle
abbrev pub IsOrder : (g : List (List ℕ)) → Order → Type 0
IsOrder g (Plan order) = (HasCycle g → ⊥) × IsPlan g order.items
IsOrder g (Cycle cycle) = IsCycle g cycle.items

-- the plan by the edges that count, where neither they nor the hard ones make a cycle, or a cycle of hard ones
abbrev pub IsCountedOrder : (hard soft : List (List ℕ)) (dropped : Bool) → Order → Type 0
IsCountedOrder hard soft dropped (Plan order) =
    (HasCycle hard → ⊥) × (HasCycle (counting hard soft dropped) → ⊥) × IsPlan (counting hard soft dropped) order.items
IsCountedOrder hard soft dropped (Cycle cycle) = IsCycle hard cycle.items
