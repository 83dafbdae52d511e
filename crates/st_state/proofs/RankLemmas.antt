-- Names that rise have ranks that don't fall, and the rank as the program finds it.
use Rattle.std.proofs.Common.{nat_eq, ◌≡◌, ◌∙◌, ℕ, zero, suc, ◌+◌, ◌-◌, ◌*◌, ◌^◌, ◌<◌, ◌≤◌, ◌==◌, ◌⊎◌, List, [], ◌∷◌, ◌++◌, Bool, true, false, cond, ◌&&◌, nat_lt, length, take, drop, get_or, sym, ap, subst, refl, inl, inr, arith}
use Rattle.std.proofs.Math.Nat.{mul-le-mul_right, pow-suc}
use Rattle.std.specs.List.{All}
use Rattle.std.proofs.lemmas.List.Elements.{All-append, All-cons, All-nil}
use Rattle.std.proofs.lemmas.Bool.{cases_lt}
use Rattle.std.proofs.lemmas.Bool.Decides.{nat_tests}
use Rattle.std.specs.declared.cmp.Ordering.{Ordering}
use Rattle.std.specs.declared.cmp.Ordering.TheVariants.{Less, Equal, Greater}
use Rattle.std.specs.Ordering.{nat_cmp, is_lt, ordering_then}
use Rattle.std.specs.Cmp.Lexicographic.{slice_cmp, pointwise}
use Rattle.st_state.specs.Ranks.{number_from, rank, HasRank}
use Rattle.st_records.proofs.Fields.{IsBytes}

number_bound : (n i : ℕ) (xs : List ℕ) → IsBytes xs → number_from n i xs < 256 ^ n
unfolding number_from
number_bound zero i xs bytes = omega arith
number_bound (suc n) i xs bytes =
    let here : get_or xs i 0 ≤ 255 = omega (arith, bytes i) in
    let most : get_or xs i 0 * 256 ^ n ≤ 255 * 256 ^ n = mul-le-mul_right (256 ^ n) here in
    omega (arith, most, number_bound n (suc i) xs bytes, pow-suc 256 n)

number_shift : (n i x : ℕ) (xs : List ℕ) → number_from n (suc i) (x ∷ xs) ≡ number_from n i xs
unfolding number_from
number_shift zero i x xs = refl
number_shift (suc n) i x xs = ap (λ m. get_or xs i 0 * 256 ^ n + m) (number_shift n (suc i) x xs)

number_nil : (n i : ℕ) → number_from n i [] ≡ 0
unfolding number_from
number_nil zero i = refl
number_nil (suc n) i = omega (arith, number_nil n (suc i))

low_test : (x b r m : ℕ) → x < b → cond (nat_lt x b) 0 (cond (x == b) r m) ≡ 0
low_test x b r m lt = grind (arith, nat_tests)

on_test : (x b r m : ℕ) → x ≡ b → cond (nat_lt x b) 0 (cond (x == b) r m) ≡ r
on_test x b r m same = grind (arith, nat_tests)

high_test : (x b r m : ℕ) → b < x → cond (nat_lt x b) 0 (cond (x == b) r m) ≡ m
high_test x b r m gt = grind (arith, nat_tests)

less_cmp : (a b : ℕ) → a < b → nat_cmp a b ≡ Less
less_cmp a b lt = grind (arith, nat_tests)

equal_cmp : (a b : ℕ) → a ≡ b → nat_cmp a b ≡ Equal
equal_cmp a b same = grind (arith, nat_tests)

greater_cmp : (a b : ℕ) → b < a → nat_cmp a b ≡ Greater
greater_cmp a b gt = grind (arith, nat_tests)

three : (x b : ℕ) → (x < b) ⊎ ((x ≡ b) ⊎ (b < x))
three x b =
    elim (cases_lt x b) [
      | inl lt ↦ inl lt
      | inr le ↦ elim (cases_lt b x) [ inl gt ↦ inr (inr gt) | inr le_too ↦ inr (inl (omega (arith, le, le_too))) ]
    ]

-- which of two numbers is the less, where the first pair that differs says so
by_first : (a b : ℕ) (o : Ordering) → ordering_then (nat_cmp a b) o ≡ Less → (a < b) ⊎ ((a ≡ b) × (o ≡ Less))
by_first a b o e =
    elim (three a b) [
      | inl lt ↦ inl lt
      | inr more ↦ elim more [
        | inl same ↦ inr (same, subst (λ c. ordering_then c o ≡ Less) (equal_cmp a b same) e)
        | inr gt ↦ let over : ordering_then Greater o ≡ Less = subst (λ c. ordering_then c o ≡ Less) (greater_cmp a b gt) e in cc
      ]
    ]

bytes_rest : (x : ℕ) (xs : List ℕ) → IsBytes (x ∷ xs) → IsBytes xs
bytes_rest x xs bytes i = bytes (suc i)

number_mono : (n : ℕ) (x y : List ℕ) → IsBytes x → IsBytes y → slice_cmp nat_cmp x y ≡ Less → number_from n 0 x ≤ number_from n 0 y
unfolding number_from
number_mono zero x y _ _ e = omega arith
number_mono (suc n) [] y _ _ e = omega (arith, number_nil n 1)
number_mono (suc n) (a ∷ x) [] _ _ e = cc
number_mono (suc n) (a ∷ x) (b ∷ y) fits fits_too e =
    elim (by_first a b (slice_cmp nat_cmp x y) e) [
      | inl lt ↦
          let step : (a + 1) * 256 ^ n ≤ b * 256 ^ n = mul-le-mul_right (256 ^ n) (omega (arith, lt)) in
          let grown : (a + 1) * 256 ^ n ≡ a * 256 ^ n + 256 ^ n = omega arith in
          omega (arith, step, grown, number_bound n 1 (a ∷ x) fits)
      | inr same ↦
          let rest : number_from n 0 x ≤ number_from n 0 y = number_mono n x y (bytes_rest a x fits) (bytes_rest b y fits_too) same.1 in
          let first : a * 256 ^ n ≡ b * 256 ^ n = ap (λ k. k * 256 ^ n) same.0 in
          omega (arith, rest, first, number_shift n 0 a x, number_shift n 0 b y)
    ]

rank_low : (b : ℕ) (beginning : List ℕ) (x : ℕ) (name : List ℕ) → x < b → rank (b ∷ beginning) (x ∷ name) ≡ 0
unfolding rank
rank_low b beginning x name lt = low_test x b _ _ lt

rank_on : (b : ℕ) (beginning : List ℕ) (x : ℕ) (name : List ℕ) → x ≡ b → rank (b ∷ beginning) (x ∷ name) ≡ rank beginning name
unfolding rank
rank_on b beginning x name same = on_test x b _ _ same

rank_high : (b : ℕ) (beginning : List ℕ) (x : ℕ) (name : List ℕ) → b < x → rank (b ∷ beginning) (x ∷ name) ≡ 2 ^ 64 - 1
unfolding rank
rank_high b beginning x name gt = high_test x b _ _ gt

rank_bound : (beginning name : List ℕ) → IsBytes name → rank beginning name ≤ 2 ^ 64 - 1
unfolding rank
rank_bound [] name bytes = omega (arith, number_bound 8 0 name bytes)
rank_bound (b ∷ beginning) [] bytes = omega arith
rank_bound (b ∷ beginning) (x ∷ name) bytes =
    elim (three x b) [
      | inl lt ↦ omega (arith, rank_low b beginning x name lt)
      | inr more ↦ elim more [
        | inl same ↦ omega (arith, rank_on b beginning x name same, rank_bound beginning name (bytes_rest x name bytes))
        | inr gt ↦ omega (arith, rank_high b beginning x name gt)
      ]
    ]

rank_mono : (beginning x y : List ℕ) → IsBytes x → IsBytes y → slice_cmp nat_cmp x y ≡ Less → rank beginning x ≤ rank beginning y
unfolding rank
rank_mono [] x y fits fits_too e = number_mono 8 x y fits fits_too e
rank_mono (b ∷ beginning) [] y _ _ e = omega arith
rank_mono (b ∷ beginning) (p ∷ x) [] _ _ e = cc
rank_mono (b ∷ beginning) (p ∷ x) (q ∷ y) fits fits_too e =
    elim (by_first p q (slice_cmp nat_cmp x y) e) [
      | inl lt ↦ elim (three p b) [
        | inl low ↦ omega (arith, rank_low b beginning p x low)
        | inr more ↦
            let high : b < q = elim more [ inl same ↦ omega (arith, same, lt) | inr gt ↦ omega (arith, gt, lt) ] in
            omega (arith, rank_high b beginning q y high, rank_bound (b ∷ beginning) (p ∷ x) fits)
      ]
      | inr same ↦ elim (three p b) [
        | inl low ↦ omega (arith, rank_low b beginning p x low)
        | inr more ↦ elim more [
          | inl on ↦
              let rest : rank beginning x ≤ rank beginning y = rank_mono beginning x y (bytes_rest p x fits) (bytes_rest q y fits_too) same.1 in
              omega (arith, rest, rank_on b beginning p x on, rank_on b beginning q y (sym same.0 ∙ on))
          | inr gt ↦
              let above : b < q = omega (arith, gt, same.0) in
              omega (arith, rank_high b beginning p x gt, rank_high b beginning q y above)
        ]
      ]
    ]

-- ---- the rank as it is found

differs : true ≡ false → ⊥
differs e = cc

first_true : (p q : Bool) → (p && q) ≡ true → p ≡ true
first_true true q e = refl
first_true false q e = e

second_true : (p q : Bool) → (p && q) ≡ true → q ≡ true
second_true true q e = e
second_true false q e = absurd (differs (sym e))

same_of : (x b : ℕ) → nat_eq x b ≡ true → x ≡ b
same_of x b e = grind (arith, nat_tests)

same_test : (x b : ℕ) → x ≡ b → nat_eq x b ≡ true
same_test x b e = grind (arith, nat_tests)

rest_false : (x b : ℕ) (q : Bool) → x ≡ b → (nat_eq x b && q) ≡ false → q ≡ false
rest_false x b q same e = subst (λ p. (p && q) ≡ false) (same_test x b same) e

pub rank-prefixed : (beginning name : List ℕ) → pointwise nat_eq (take (length beginning) name) beginning ≡ true
    → rank beginning name ≡ number_from 8 0 (drop (length beginning) name)
unfolding rank
rank-prefixed [] name e = refl
rank-prefixed (b ∷ beginning) [] e = cc
rank-prefixed (b ∷ beginning) (x ∷ name) e =
    rank_on b beginning x name (same_of x b (first_true _ _ e)) ∙ rank-prefixed beginning name (second_true _ _ e)

pub rank-below : (beginning name : List ℕ) → pointwise nat_eq (take (length beginning) name) beginning ≡ false
    → is_lt (slice_cmp nat_cmp name beginning) ≡ true → rank beginning name ≡ 0
unfolding rank
rank-below [] name other below = absurd (differs other)
rank-below (b ∷ beginning) [] other below = refl
rank-below (b ∷ beginning) (x ∷ name) other below =
    elim (three x b) [
      | inl lt ↦ rank_low b beginning x name lt
      | inr more ↦ elim more [
        | inl same ↦
            rank_on b beginning x name same
            ∙ rank-below beginning name (rest_false x b _ same other) (subst (λ c. is_lt (ordering_then c (slice_cmp nat_cmp name beginning)) ≡ true) (equal_cmp x b same) below)
        | inr gt ↦ absurd (differs (sym (subst (λ c. is_lt (ordering_then c (slice_cmp nat_cmp name beginning)) ≡ true) (greater_cmp x b gt) below)))
      ]
    ]

pub rank-above : (beginning name : List ℕ) → pointwise nat_eq (take (length beginning) name) beginning ≡ false
    → is_lt (slice_cmp nat_cmp name beginning) ≡ false → rank beginning name ≡ 2 ^ 64 - 1
unfolding rank
rank-above [] name other above = absurd (differs other)
rank-above (b ∷ beginning) [] other above = absurd (differs above)
rank-above (b ∷ beginning) (x ∷ name) other above =
    elim (three x b) [
      | inl lt ↦ absurd (differs (subst (λ c. is_lt (ordering_then c (slice_cmp nat_cmp name beginning)) ≡ false) (less_cmp x b lt) above))
      | inr more ↦ elim more [
        | inl same ↦
            rank_on b beginning x name same
            ∙ rank-above beginning name (rest_false x b _ same other) (subst (λ c. is_lt (ordering_then c (slice_cmp nat_cmp name beginning)) ≡ false) (equal_cmp x b same) above)
        | inr gt ↦ rank_high b beginning x name gt
      ]
    ]

not_above : (r s : ℕ) → r ≤ s → is_lt (ordering_then (nat_cmp r s) Less) ≡ false → ⊥
not_above r s le e =
    elim (three r s) [
      | inl lt ↦ differs (subst (λ c. is_lt (ordering_then c Less) ≡ false) (less_cmp r s lt) e)
      | inr more ↦ elim more [
        | inl same ↦ differs (subst (λ c. is_lt (ordering_then c Less) ≡ false) (equal_cmp r s same) e)
        | inr gt ↦ omega (arith, gt, le)
      ]
    ]

-- names that are in order by their ranks, and by their bytes where the ranks are equal, are in byte order
pub in_order-ranked : (beginning x y : List ℕ) (r s : ℕ) → HasRank beginning x r → HasRank beginning y s
    → is_lt (ordering_then (nat_cmp r s) (slice_cmp nat_cmp x y)) ≡ false → is_lt (slice_cmp nat_cmp x y) ≡ false
in_order-ranked beginning x y r s of_x of_y up =
    elim (slice_cmp nat_cmp x y) as (λ o. slice_cmp nat_cmp x y ≡ o → is_lt (ordering_then (nat_cmp r s) o) ≡ false → is_lt o ≡ false) [
      | Less ↦ λ less not_so.
          let ranks : r ≤ s = subst (λ k. k ≤ s) (sym of_x.is) (subst (λ k. rank beginning x ≤ k) (sym of_y.is) (rank_mono beginning x y of_x.bytes of_y.bytes less)) in
          absurd (not_above r s ranks not_so)
      | Equal ↦ λ _ _. refl
      | Greater ↦ λ _ _. refl
    ] refl up

pub All-push : {X : Type 0} (P : X → Type 0) (xs : List X) (x : X) → All P xs → P x → All P (xs ++ x ∷ [])
All-push P xs x all one = All-append P xs (x ∷ []) all (All-cons P x [] one (All-nil P))
