-- Reading so many values, one after the other: as a loop does, and over again what was written.
use Rattle.std.proofs.Common.{◌≡◌, ℕ, zero, suc, ◌-◌, ◌+◌, ◌≤◌, ◌<◌, List, [], ◌∷◌, ◌++◌, length, Result, Ok, Err, refl, sym, ap, ◌∙◌, append_assoc, arith, subst}
use Rattle.std.specs.Prelude.{IsErr}
use Rattle.std.specs.List.{flat_map, AllByRecursion}
use Rattle.std.proofs.lemmas.List.{append-nil}
use Rattle.st_records.specs.declared.fault.DecodeFault.{DecodeFault}
use Rattle.st_records.specs.Reading.{◌>>=◌, Reader}
use Rattle.st_records.proofs.Fields.{IsBytes, bind_ok, ok_is, Takes, Takes-then, Reads}
use Rattle.st_marks.specs.Reading.{many_at}
use Rattle.st_marks.proofs.FaultLemmas.{then_fails}

-- what was read before, and what is still read
abbrev pub with_front : {A : Type 0} → List A → Result (List A × List ℕ) DecodeFault → Result (List A × List ℕ) DecodeFault
with_front front read = read >>= λ x. Ok (front ++ x.0, x.1)

regroup : {A : Type 0} (front : List A) (x : A) (read : Result (List A × List ℕ) DecodeFault) → with_front front (read >>= λ y. Ok (x ∷ y.0, y.1)) ≡ with_front (front ++ x ∷ []) read
regroup {A} front x (Ok y) = ap (λ (items : List A). Ok (items, y.1)) (simp append_assoc)
regroup front x (Err f) = refl

pub goes_on : {A : Type 0} (a : Reader A) (front : List A) (count i : ℕ) (bytes : List ℕ) (x : A) (after : List ℕ) (total : Result (List A × List ℕ) DecodeFault) → i < count → a bytes ≡ Ok (x, after)
    → with_front front (many_at a (count - i) bytes) ≡ total → with_front (front ++ x ∷ []) (many_at a (count - (i + 1)) after) ≡ total
goes_on a front count i bytes x after total lt h so_far =
    let k : count - i ≡ suc (count - (i + 1)) = omega arith in
    let one : with_front front (many_at a (count - i) bytes) ≡ with_front (front ++ x ∷ []) (many_at a (count - (i + 1)) after) = rw (k, h) (regroup front x (many_at a (count - (i + 1)) after)) in
    sym one ∙ so_far

-- a fault in one of them is a fault of all
pub ends : {A : Type 0} (a : Reader A) (front : List A) (count i : ℕ) (bytes : List ℕ) (total : Result (List A × List ℕ) DecodeFault) → i < count → IsErr (a bytes)
    → with_front front (many_at a (count - i) bytes) ≡ total → IsErr total
ends {A} a front count i bytes total lt h so_far =
    let k : count - i ≡ suc (count - (i + 1)) = omega arith in
    let fails = then_fails (many_at a (suc (count - (i + 1))) bytes) (λ x. Ok (front ++ x.0, x.1))
    (then_fails (a bytes) (λ first. many_at a (count - (i + 1)) first.1 >>= λ others. Ok (first.0 ∷ others.0, others.1)) h) in
    let before : IsErr (with_front front (many_at a (count - i) bytes)) = rw k fails in
    subst (λ (r : Result (List A × List ℕ) DecodeFault). IsErr r) so_far before

pub is_done : {A : Type 0} (a : Reader A) (front : List A) (count i : ℕ) (bytes : List ℕ) (total : Result (List A × List ℕ) DecodeFault) → count ≤ i → with_front front (many_at a (count - i) bytes) ≡ total → total ≡ Ok (front, bytes)
is_done {A} a front count i bytes total le so_far =
    let k : count - i ≡ 0 = omega arith in
    let one : with_front front (many_at a (count - i) bytes) ≡ Ok (front, bytes) = rw k (ap (λ (items : List A). Ok (items, bytes)) (append-nil front)) in
    sym so_far ∙ one

-- ---- what is read was written so, and what is written is read again

pub many_again : {A : Type 0} (s : A → List ℕ) (F : A → Type 0) (a : Reader A) → Reads s F a → (items : List A) (rest : List ℕ) → AllByRecursion F items → many_at a (length items) (flat_map s items ++ rest) ≡ Ok (items, rest)
many_again s F a r [] rest fits = refl
many_again s F a r (x ∷ items) rest fits =
    let regrouped : flat_map s (x ∷ items) ++ rest ≡ s x ++ (flat_map s items ++ rest) = append_assoc (s x) (flat_map s items) rest in
    ap (many_at a (suc (length items))) regrouped ∙ rw (r.again x (flat_map s items ++ rest) fits.0, many_again s F a r items rest fits.1) refl

pub many_take : {A : Type 0} (s : A → List ℕ) (F : A → Type 0) (a : Reader A) → Reads s F a → (n : ℕ) (bytes : List ℕ) (x : List A × List ℕ) → IsBytes bytes → many_at a n bytes ≡ Ok x → Takes bytes (flat_map s x.0) x.1 × (length x.0 ≡ n) × AllByRecursion F x.0
many_take {A} s F a r zero bytes x fits e =
    subst (λ (y : List A × List ℕ). Takes bytes (flat_map s y.0) y.1 × (length y.0 ≡ 0) × AllByRecursion F y.0) (ok_is ([], bytes) x e) (record { parts = refl; rest_fits = fits }, refl, tt)
many_take {A} s F a r (suc n) bytes x fits e =
    let p = bind_ok (a bytes) (λ first. many_at a n first.1 >>= λ others. Ok (first.0 ∷ others.0, others.1)) x e in
    let q = bind_ok (many_at a n p.0.1) (λ others. Ok (p.0.0 ∷ others.0, others.1)) x p.2 in
    let first = r.takes bytes p.0 fits p.1 in
    let second = many_take s F a r n p.0.1 q.0 first.0.rest_fits q.1 in
    let both = Takes-then bytes (s p.0.0) p.0.1 (flat_map s q.0.0) q.0.1 first.0 second.0 in
    let made : List A × List ℕ = (p.0.0 ∷ q.0.0, q.0.1) in
    subst (λ (y : List A × List ℕ). Takes bytes (flat_map s y.0) y.1 × (length y.0 ≡ suc n) × AllByRecursion F y.0) (ok_is made x q.2) (both, ap suc second.1, (first.1, second.2))
