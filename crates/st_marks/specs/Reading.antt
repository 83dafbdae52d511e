-- Reading from the left, as st_records reads: a value and the bytes behind it, or a fault.
use Rattle.std.specs.Prelude.{◌≡◌, ℕ, ℤ, zero, suc, List, [], ◌∷◌, Option, Some, None, Result, Ok, Err, IsErr}
use Rattle.std.specs.Int.{w64, cast_signed}
use Rattle.st_records.specs.declared.fault.DecodeFault.{DecodeFault}
use Rattle.st_records.specs.declared.fault.DecodeFault.TheVariants.{Short, BadKind}
use Rattle.st_records.specs.Reading.{◌>>=◌, Reader, then_at, made_at, uint_at, number_at, string_at}
use Rattle.st_marks.specs.declared.mark.Stamp.{Stamp}
use Rattle.st_marks.specs.declared.mark.Mark.{Mark}
use Rattle.st_marks.specs.declared.mark.Mark.TheVariants as mark

-- a call found what reading gives, seen by view, and nothing where reading meets a fault
abbrev pub Finds : {X Y : Type 0} → (X → Y) → Option X → Result Y DecodeFault → Type 0
Finds view (Some x) read = read ≡ Ok (view x)
Finds view None read = IsErr read

-- the source
unfoldable pub source_at : Reader (Option (List ℕ))
source_at [] = Err Short
source_at (zero ∷ rest) = Ok (None, rest)
source_at (suc zero ∷ rest) = made_at Some string_at rest
source_at (suc (suc b) ∷ rest) = Err BadKind

-- a time
abbrev pub time_at : Reader ℤ
time_at = made_at (cast_signed w64) (uint_at w64)

-- the stamp of an ordinary file
unfoldable pub stamp_at : Reader Stamp
stamp_at = made_at (λ x. record { time = x.0; size = x.1 }) (then_at time_at number_at)

-- a mark
unfoldable pub mark_at : Reader Mark
mark_at [] = Err Short
mark_at (zero ∷ rest) = Ok (mark.Unknown, rest)
mark_at (suc zero ∷ rest) = Ok (mark.NoFile, rest)
mark_at (suc (suc zero) ∷ rest) = Ok (mark.Other, rest)
mark_at (suc (suc (suc zero)) ∷ rest) = made_at mark.File stamp_at rest
mark_at (suc (suc (suc (suc zero))) ∷ rest) = made_at mark.Own stamp_at rest
mark_at (suc (suc (suc (suc (suc b)))) ∷ rest) = Err BadKind

-- so many values, whatever they are
abbrev pub many_at : {A : Type 0} → Reader A → ℕ → Reader (List A)
many_at a zero bytes = Ok ([], bytes)
many_at a (suc n) bytes = a bytes >>= λ first. (many_at a n first.1 >>= λ others. Ok (first.0 ∷ others.0, others.1))

-- the mark that was read and what stands behind it, or else an unknown one behind which nothing stands
abbrev pub mark_or_unknown : Result (Mark × List ℕ) DecodeFault → Mark × List ℕ
mark_or_unknown (Ok x) = x
mark_or_unknown (Err fault) = (mark.Unknown, [])

-- so many marks, of which those that can't be read are unknown
abbrev pub marks_in : (count : ℕ) (bytes : List ℕ) → List Mark
marks_in zero bytes = []
marks_in (suc count) bytes = (mark_or_unknown (mark_at bytes)).0 ∷ marks_in count (mark_or_unknown (mark_at bytes)).1
