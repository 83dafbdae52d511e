-- The greatest sums of paths, recipe by recipe.
use Rattle.std.specs.Prelude.{◌≡◌, ℕ, ◌+◌, ◌<◌, ◌≤◌, ◌⊎◌, List, Option, None, Some, length, slice_index}
use Rattle.bl_log.specs.declared.span.Span.{Span}
use Rattle.bl_log.specs.Spans.{end_of, time_of}
use Rattle.bl_log.specs.Critical.{Precedes, LeadsFrom, Leads}

-- of the first names, as many as a count, the one that leads to a recipe with the greatest sum; none where none of them precedes it
abbrev pub IsLast : List Span → (named sums : List ℕ) → (recipe count : ℕ) → Option ℕ → Type 0
IsLast spans named sums recipe count None = (k : ℕ) → k < count → Precedes spans (slice_index named k) recipe → ⊥
IsLast spans named sums recipe count (Some last) =
    LeadsFrom spans named last recipe
    × ((k : ℕ) → k < count → Precedes spans (slice_index named k) recipe → slice_index sums (slice_index named k) ≤ slice_index sums last)

-- a recipe's sum is its own time, and where one leads to it the greatest sum of one that does
pub record IsReached (spans : List Span) (prerequisites : List (List ℕ)) (sums : List ℕ) (recipe : ℕ) : Type 0 where
  pub within : slice_index sums recipe ≤ end_of spans recipe
  pub own : time_of spans recipe ≤ slice_index sums recipe
  pub over : (first : ℕ) → Leads spans prerequisites first recipe → slice_index sums first + time_of spans recipe ≤ slice_index sums recipe
  pub by : (slice_index sums recipe ≡ time_of spans recipe)
      ⊎ ((first : ℕ) × Leads spans prerequisites first recipe × (slice_index sums recipe ≡ slice_index sums first + time_of spans recipe))

-- so is that of each of the first recipes, as many as there are sums
pub record AreReached (spans : List Span) (prerequisites : List (List ℕ)) (sums : List ℕ) (count : ℕ) : Type 0 where
  pub each : length sums ≡ count
  pub all : (recipe : ℕ) → recipe < count → IsReached spans prerequisites sums recipe
