-- What the private functions that compare receipts with told records compute. `Agreement` says what it means.
use Rattle.std.specs.Prelude.{◌≡◌, ℕ, ◌<◌, ◌≤◌, Bool, true, false, List, [], length, Option, Some, None, slice_get}
use Rattle.st_records.specs.declared.record.Record.{Record}
use Rattle.bd_flusher.specs.declared.site.receipt.Receipt.{Receipt}
use Rattle.jb_closing.specs.declared.agreement.Mark.{Mark}
use Rattle.jb_closing.specs.declared.agreement.Mark.TheVariants.{Missing, Right, Wrong}
use Rattle.jb_closing.specs.Agreement.{noted_at, IsMark}

-- each told record has the mark that these receipts give it
pub record AreMarks (told : List Record) (receipts : List Receipt) (marks : List Mark) : Type 0 where
  pub each_one : length marks ≡ length told
  pub mark : (ticket : ℕ) (note : Record) (m : Mark) → slice_get told ticket ≡ Some note → slice_get marks ticket ≡ Some m
      → IsMark m note (noted_at receipts ticket)

-- the least ticket of these receipts from a limit on: those below it, and not below the limit, have no receipt
abbrev pub IsLeastBeyond : (limit : ℕ) → List Receipt → Option ℕ → Type 0
IsLeastBeyond limit receipts None = (ticket : ℕ) → limit ≤ ticket → noted_at receipts ticket ≡ []
IsLeastBeyond limit receipts (Some least) = (limit ≤ least) × (noted_at receipts least ≡ [] → ⊥)
    × ((ticket : ℕ) → limit ≤ ticket → ticket < least → noted_at receipts ticket ≡ [])

-- whether a mark isn't right
abbrev pub is_unmarked : Mark → Bool
is_unmarked Missing = true
is_unmarked Right = false
is_unmarked Wrong = true

-- the first of some marks that isn't right
abbrev pub IsFirstUnmarked : List Mark → Option ℕ → Type 0
IsFirstUnmarked marks None = (place : ℕ) → place < length marks → slice_get marks place ≡ Some Right
IsFirstUnmarked marks (Some found) = (found < length marks) × (slice_get marks found ≡ Some Right → ⊥)
    × ((place : ℕ) → place < found → slice_get marks place ≡ Some Right)
