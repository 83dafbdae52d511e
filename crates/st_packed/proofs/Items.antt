-- Reading strings one after the other, as a loop does.
use Rattle.std.proofs.Common.{◌≡◌, ℕ, suc, ◌-◌, ◌+◌, ◌≤◌, ◌<◌, List, [], ◌∷◌, ◌++◌, Result, Ok, Err, refl, sym, ap, ◌∙◌, append_assoc, arith}
use Rattle.std.proofs.lemmas.List.{append-nil}
use Rattle.st_records.specs.declared.fault.DecodeFault.{DecodeFault}
use Rattle.st_records.specs.declared.fault.DecodeFault.TheVariants.{OutOfMemory, Short, BadKind, Check}
use Rattle.st_records.specs.Reading.{◌>>=◌, Fails, string_at, items_at}

-- what was read before, and what is still read
abbrev pub with_front : List (List ℕ) → Result (List (List ℕ) × List ℕ) DecodeFault → Result (List (List ℕ) × List ℕ) DecodeFault
with_front front read = read >>= λ x. Ok (front ++ x.0, x.1)

regroup : (front : List (List ℕ)) (x : List ℕ) (read : Result (List (List ℕ) × List ℕ) DecodeFault) → with_front front (read >>= λ y. Ok (x ∷ y.0, y.1)) ≡ with_front (front ++ x ∷ []) read
regroup front x (Ok y) = ap (λ (items : List (List ℕ)). Ok (items, y.1)) (simp append_assoc)
regroup front x (Err f) = refl

pub goes_on : (front : List (List ℕ)) (count i : ℕ) (bytes x after : List ℕ) (total : Result (List (List ℕ) × List ℕ) DecodeFault) → i < count → string_at bytes ≡ Ok (x, after)
    → with_front front (items_at (count - i) bytes) ≡ total → with_front (front ++ x ∷ []) (items_at (count - (i + 1)) after) ≡ total
unfolding items_at
goes_on front count i bytes x after total lt h so_far =
    let k : count - i ≡ suc (count - (i + 1)) = omega arith in
    let one : with_front front (items_at (count - i) bytes) ≡ with_front (front ++ x ∷ []) (items_at (count - (i + 1)) after) = rw (k, h) (regroup front x (items_at (count - (i + 1)) after)) in
    sym one ∙ so_far

-- a fault in one of them is the fault of all
stops : (f : DecodeFault) (front : List (List ℕ)) (count i : ℕ) (bytes : List ℕ) (total : Result (List (List ℕ) × List ℕ) DecodeFault) → i < count → string_at bytes ≡ Err f
    → with_front front (items_at (count - i) bytes) ≡ total → total ≡ Err f
unfolding items_at
stops f front count i bytes total lt h so_far =
    let k : count - i ≡ suc (count - (i + 1)) = omega arith in
    let one : with_front front (items_at (count - i) bytes) ≡ Err f = rw (k, h) refl in
    sym so_far ∙ one

pub ends : (f : DecodeFault) (front : List (List ℕ)) (count i : ℕ) (bytes : List ℕ) (total : Result (List (List ℕ) × List ℕ) DecodeFault) → i < count → Fails f (string_at bytes)
    → with_front front (items_at (count - i) bytes) ≡ total → Fails f total
ends OutOfMemory front count i bytes total lt h so_far = tt
ends Short front count i bytes total lt h so_far = stops Short front count i bytes total lt h so_far
ends BadKind front count i bytes total lt h so_far = stops BadKind front count i bytes total lt h so_far
ends (Check fault) front count i bytes total lt h so_far = stops (Check fault) front count i bytes total lt h so_far

pub is_done : (front : List (List ℕ)) (count i : ℕ) (bytes : List ℕ) (total : Result (List (List ℕ) × List ℕ) DecodeFault) → count ≤ i → with_front front (items_at (count - i) bytes) ≡ total → total ≡ Ok (front, bytes)
unfolding items_at
is_done front count i bytes total le so_far =
    let k : count - i ≡ 0 = omega arith in
    let one : with_front front (items_at (count - i) bytes) ≡ Ok (front, bytes) = rw k (ap (λ (items : List (List ℕ)). Ok (items, bytes)) (append-nil front)) in
    sym so_far ∙ one
