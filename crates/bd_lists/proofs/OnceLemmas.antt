-- Numbers that rise stand in a list once.
use Rattle.std.proofs.Common.{◌≡◌, ℕ, suc, ◌<◌, ◌≤◌, Bool, true, false, nat_eq, List, [], ◌∷◌, length, get_or, refl, arith}
use Rattle.std.specs.List.Sorted.{IsStrictlyIncreasing}
use Rattle.std.proofs.lemmas.Bool.Decides.{nat_tests}
use Rattle.std.proofs.lemmas.List.Kept.{AllPairs-from_increasing}
use Rattle.mk_graph.specs.Edges.{times}
use Rattle.mk_graph.proofs.RowLemmas.{times-cons}

apart : (n x : ℕ) → n < x → nat_eq n x ≡ false
apart n x h = grind (arith, nat_tests)

same : (n x : ℕ) → nat_eq n x ≡ true → n ≡ x
same n x e = grind (arith, nat_tests)

none_below : (n : ℕ) (xs : List ℕ) → ((j : ℕ) → j < length xs → n < get_or xs j 0) → times n xs ≡ 0
none_below n [] h = refl
none_below n (x ∷ xs) h = rw (times-cons n x xs, apart n x (h 0 (omega arith))) (omega (arith, none_below n xs (λ j l. h (suc j) (omega arith))))

once_in : (n : ℕ) (xs : List ℕ) → ((i j : ℕ) → i < j → j < length xs → get_or xs i 0 < get_or xs j 0) → times n xs ≤ 1
once_in n [] h = omega arith
once_in n (x ∷ xs) h = by (once_in n xs (λ i j l m. h (suc i) (suc j) (omega arith) (omega arith))) (nat_eq n x) refl
  where
    by : times n xs ≤ 1 → (b : Bool) → nat_eq n x ≡ b → times n (x ∷ xs) ≤ 1
    by rest true e =
        let is = same n x e in
        let none = none_below n xs (λ j l. let up = h 0 (suc j) (omega arith) (omega arith) in omega arith) in
        rw (times-cons n x xs, e) (omega arith)
    by rest false e = rw (times-cons n x xs, e) (omega arith)

pub times_once : (xs : List ℕ) → IsStrictlyIncreasing xs → (n : ℕ) → times n xs ≤ 1
times_once xs h n = once_in n xs (λ i j l m. AllPairs-from_increasing xs h i j 0 l m)
