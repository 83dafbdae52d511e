-- What is written of all that waits.
use Rattle.std.proofs.Common.{◌≡◌, ◌⊎◌, ℕ, zero, suc, ◌<◌, List, length, refl, inl, inr, arith}
use Rattle.st_records.specs.declared.record.Record.{Record}
use Rattle.bd_flusher.specs.Site.{FactsIn, holding_in}
use Rattle.bd_flusher.specs.Flushing.{HasTakenIn}

none_or_some : (n : ℕ) → (n ≡ 0) ⊎ (0 < n)
none_or_some zero = inl refl
none_or_some (suc n) = inr (omega arith)

of_either : {D : Type 0} (old new : FactsIn D) (notes : List (ℕ × Record)) → (length old.held ≡ 0) ⊎ (0 < length old.held)
    → (length old.held ≡ 0 → new ≡ holding_in notes old) → (0 < length old.held → new ≡ old) → HasTakenIn old new
of_either old new notes (inl nothing) none some = inr (nothing, notes, none nothing)
of_either old new notes (inr something) none some = inl (something, some something)

-- a site that holds what it held, or else what was drained, has taken in what waited
pub taken_in : {D : Type 0} (old new : FactsIn D) (notes : List (ℕ × Record))
    → (length old.held ≡ 0 → new ≡ holding_in notes old) → (0 < length old.held → new ≡ old) → HasTakenIn old new
taken_in old new notes none some = of_either old new notes (none_or_some (length old.held)) none some
