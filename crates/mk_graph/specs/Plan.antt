-- The order in which the nodes of a graph are passed. Own.
use Rattle.std.specs.Prelude.{◌≡◌, ℕ, ◌<◌, Bool, true, false, not, ◌&&◌, nat_lt, List, [], ◌∷◌, ◌++◌, length, if◌then◌else◌}
use Rattle.std.specs.List.{list_all}
use Rattle.mk_graph.specs.Edges.{row, has, times, is_closed}
use Rattle.mk_graph.specs.Cycle.{HasCycle}

-- whether a node can be passed next: it wasn't passed yet, and all its prerequisites were
abbrev pub is_ready : (g : List (List ℕ)) (passed : List ℕ) (n : ℕ) → Bool
is_ready g passed n = nat_lt n (length g) && (not (has passed n) && list_all (has passed) (row g n))

-- the node is the least one that can be passed next
pub record IsNext (g : List (List ℕ)) (passed : List ℕ) (n : ℕ) : Type 0 where
  pub ready : is_ready g passed n ≡ true
  pub least : (m : ℕ) → m < n → is_ready g passed m ≡ false

-- behind these nodes the others are passed in this order: again and again the least one that can be passed next, until
-- there is none
abbrev pub IsPlanAfter : (g : List (List ℕ)) (passed order : List ℕ) → Type 0
IsPlanAfter g passed [] = (n : ℕ) → is_ready g passed n ≡ false
IsPlanAfter g passed (n ∷ order) = IsNext g passed n × IsPlanAfter g (passed ++ n ∷ []) order

-- the order in which the nodes are passed; it leaves out those that depend on a cycle
abbrev pub IsPlan : (g : List (List ℕ)) (order : List ℕ) → Type 0
IsPlan g order = IsPlanAfter g [] order

-- a graph has one plan at most
abbrev pub OnePlan : Type 0
OnePlan = (g : List (List ℕ)) (order other : List ℕ) → IsPlan g order → IsPlan g other → order ≡ other

-- the plan of a graph without a cycle has each node once, and no other number
abbrev pub WholePlan : Type 0
WholePlan = (g : List (List ℕ)) (order : List ℕ) → is_closed g ≡ true → (HasCycle g → ⊥) → IsPlan g order
    → (n : ℕ) → times n order ≡ (if nat_lt n (length g) then 1 else 0)
