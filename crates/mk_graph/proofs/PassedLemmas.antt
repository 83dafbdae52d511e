-- When all nodes were passed.
use Rattle.std.proofs.Common.{◌≡◌, ℕ, zero, suc, ◌+◌, ◌<◌, ◌≤◌, Bool, true, false, nat_eq, nat_lt, List, [], ◌∷◌, ◌++◌, length, refl, sym, subst, ◌∙◌, arith, ltb-true, lt-ltb, length-append}
use Rattle.std.specs.List.{list_all, IsDistinct}
use Rattle.std.proofs.lemmas.Cmp.{nat_eq_equiv}
use Rattle.std.proofs.lemmas.List.Folds.{list_all-append}
use Rattle.std.proofs.lemmas.Map.Keys.{IsDistinct-push}
use Rattle.std.proofs.lemmas.Map.Steps.{length-le_from_distinct_below}
use Rattle.mk_graph.specs.Edges.{has}
use Rattle.mk_graph.proofs.RowLemmas.{list_all-has, times_from_has}
use Rattle.mk_graph.proofs.OwnRowLemmas.{below, below_more, all_below}

-- as many numbers below one as there are, none of them twice, are all of these
pub all_of_as_many : (n : ℕ) (xs : List ℕ) → IsDistinct nat_eq xs → list_all (λ q. nat_lt q n) xs ≡ true → length xs ≡ n → (q : ℕ) → q < n → has xs q ≡ true
all_of_as_many n xs once nodes many q lt = by (has xs q) refl
  where
    by : (b : Bool) → has xs q ≡ b → b ≡ true
    by true e = refl
    by false e =
        let longer : List ℕ = xs ++ q ∷ [] in
        let within : list_all (λ m. nat_lt m n) longer ≡ true = list_all-append (λ m. nat_lt m n) xs (q ∷ []) ∙ rw (nodes, lt-ltb q n lt) refl in
        let few : length longer ≤ n = length-le_from_distinct_below longer n (IsDistinct-push nat_eq_equiv xs q once e)
        (λ m h. ltb-true m n (list_all-has (λ k. nat_lt k n) longer m within h)) in
        let l = length-append xs (q ∷ []) in
        absurd (omega arith)

all_below_one : (n : ℕ) (xs : List ℕ) → ((q : ℕ) → q < n → has xs q ≡ true) → n ≤ below n xs
all_below_one zero xs all = omega arith
all_below_one (suc n) xs all =
    let so_far = all_below_one n xs (λ q lt. all q (omega arith)) in
    let one = times_from_has n xs (all n (omega arith)) in
    let more = below_more n xs in
    let e : suc n ≡ n + 1 = omega arith in
    let next : n + 1 ≤ below (n + 1) xs = omega arith in
    subst (λ j. j ≤ below j xs) (sym e) next

-- all numbers below one are as many
pub as_many_of_all : (n : ℕ) (xs : List ℕ) → list_all (λ q. nat_lt q n) xs ≡ true → ((q : ℕ) → q < n → has xs q ≡ true) → n ≤ length xs
as_many_of_all n xs nodes all = let many = all_below_one n xs all in let l = all_below n xs nodes in omega arith
