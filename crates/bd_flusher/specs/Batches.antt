-- Submissions by ticket, and the commits that wrote them. Each commit has an end: how many submissions were written by
-- then. Own.
use Rattle.std.specs.Prelude.{◌≡◌, ℕ, zero, suc, ◌<◌, ◌≤◌, List, [], ◌∷◌, Some, slice_get}
use Rattle.st_records.specs.declared.record.Record.{Record}

-- the submission with this ticket is of this record
abbrev pub StandsAt : List Record → (ticket : ℕ) → Record → Type 0
StandsAt notes ticket note = slice_get notes ticket ≡ Some note

-- each end is greater than the one before, and the first is greater than this
abbrev pub AreIncreasing : ℕ → (ends : List ℕ) → Type 0
AreIncreasing from [] = Unit {0}
AreIncreasing from (e ∷ ends) = (from < e) × AreIncreasing e ends

-- the last end; this one where there is none
abbrev pub last_of : ℕ → (ends : List ℕ) → ℕ
last_of from [] = from
last_of from (e ∷ ends) = last_of e ends

-- the batch of this number has the ticket: the ticket isn't below the end of the batch before, and is below its own
abbrev pub IsInBatch : ℕ → (ends : List ℕ) → (ticket batch : ℕ) → Type 0
IsInBatch from [] ticket batch = ⊥
IsInBatch from (e ∷ ends) ticket zero = (from ≤ ticket) × (ticket < e)
IsInBatch from (e ∷ ends) ticket (suc batch) = IsInBatch e ends ticket batch
