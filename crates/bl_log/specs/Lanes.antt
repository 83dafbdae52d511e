-- Recipes that ran beside each other, in lanes (own; as traces of builds are drawn).
use Rattle.std.specs.Prelude.{◌≡◌, ℕ, ◌<◌, ◌≤◌, List, length, slice_index}
use Rattle.bl_log.specs.declared.span.Span.{Span}
use Rattle.bl_log.specs.Spans.{begin_of, end_of}

-- in this lane a recipe that stands before this one ended only after this one began
abbrev pub IsTaken : List Span → List ℕ → (recipe lane : ℕ) → Type 0
IsTaken spans lanes recipe lane =
    (before : ℕ) × (before < recipe) × (slice_index lanes before ≡ lane) × (begin_of spans recipe < end_of spans before)

-- a lane for each recipe: in each lane one had ended when the next began, and a recipe has a lane only where those below are taken
pub record AreLanes (spans : List Span) (lanes : List ℕ) : Type 0 where
  pub each : length lanes ≡ length spans
  pub apart : (i j : ℕ) → i < j → j < length spans → slice_index lanes i ≡ slice_index lanes j → end_of spans i ≤ begin_of spans j
  pub needed : (recipe lane : ℕ) → recipe < length spans → lane < slice_index lanes recipe → IsTaken spans lanes recipe lane
