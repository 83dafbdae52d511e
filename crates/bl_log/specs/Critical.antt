-- What a build waited for: paths of recipes, each a prerequisite of the next (the critical path method).
use Rattle.std.specs.Prelude.{◌≡◌, ℕ, ◌<◌, ◌≤◌, List, [], ◌∷◌, length, slice_index, sum_by, SomeIndex}
use Rattle.mk_graph.specs.Edges.{row}
use Rattle.bl_log.specs.declared.span.Span.{Span}
use Rattle.bl_log.specs.Spans.{begin_of, end_of, time_of}

-- a recipe stands before another one, and had ended when that began
pub record Precedes (spans : List Span) (first second : ℕ) : Type 0 where
  pub before : first < second
  pub here : second < length spans
  pub ended : end_of spans first ≤ begin_of spans second

-- a recipe leads to another one that names it as a prerequisite and that it precedes
pub record LeadsFrom (spans : List Span) (named : List ℕ) (first second : ℕ) : Type 0 where
  pub is_named : SomeIndex named (λ k. slice_index named k ≡ first)
  pub precedes : Precedes spans first second

-- by the row of the second one
abbrev pub Leads : List Span → (prerequisites : List (List ℕ)) → (first second : ℕ) → Type 0
Leads spans prerequisites first second = LeadsFrom spans (row prerequisites second) first second

-- from a recipe back, each further one leads to the one before
abbrev pub IsPathFrom : List Span → (prerequisites : List (List ℕ)) → (recipe : ℕ) → List ℕ → Type 0
IsPathFrom spans prerequisites recipe [] = Unit {0}
IsPathFrom spans prerequisites recipe (first ∷ rest) = Leads spans prerequisites first recipe × IsPathFrom spans prerequisites first rest

-- a path, its last recipe first; or none at all
abbrev pub IsPath : List Span → (prerequisites : List (List ℕ)) → List ℕ → Type 0
IsPath spans prerequisites [] = Unit {0}
IsPath spans prerequisites (last ∷ rest) = (last < length spans) × IsPathFrom spans prerequisites last rest

-- what its recipes took together
abbrev pub path_time : List Span → List ℕ → ℕ
path_time spans path = sum_by (time_of spans) path

-- a path of the greatest sum
pub record IsCritical (spans : List Span) (prerequisites : List (List ℕ)) (path : List ℕ) (time : ℕ) : Type 0 where
  pub is_path : IsPath spans prerequisites path
  pub sum : time ≡ path_time spans path
  pub greatest : (other : List ℕ) → IsPath spans prerequisites other → path_time spans other ≤ time
