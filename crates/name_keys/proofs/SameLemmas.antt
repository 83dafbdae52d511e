-- Names compared many bytes at once.
use Rattle.std.specs.Prelude.{nat_eq}
use Rattle.std.specs.Simd.Lanes.{zip2, mask_l}
use Rattle.std.specs.Cmp.Lexicographic.{pointwise}
use Rattle.std.proofs.Common.{◌≡◌, ◌∙◌, ◌+◌, ◌*◌, ◌^◌, ◌%◌, ◌≤◌, ℕ, Bool, true, false, not, cond, ◌&&◌, List, [], ◌∷◌, ◌++◌, length, take, drop, refl, sym, ap, arith}
use Rattle.std.proofs.Math.Seq.{take-add}
use Rattle.std.proofs.lemmas.List.{take_all, take-take}
use Rattle.std.proofs.lemmas.Simd.{mask_l-mod, length-zip2}
use Rattle.std.proofs.lemmas.Slice.Eq.{bytes_eq-Decides}

-- ---- lanes

abbrev pub differs : ℕ → ℕ → Bool
differs x y = not (nat_eq x y)

bit_off : (m : ℕ) → nat_eq (0 + 2 * m) 0 ≡ nat_eq m 0
bit_off m = grind arith

bit_on : (m : ℕ) → nat_eq (1 + 2 * m) 0 ≡ false
bit_on m = grind arith

more : (d : Bool) (m : ℕ) (rest : Bool) → nat_eq m 0 ≡ rest → nat_eq (cond (not d) 1 0 + 2 * m) 0 ≡ (d && rest)
more true m rest e = bit_off m ∙ e
more false m rest e = bit_on m

no_bit : (xs ys : List ℕ) → length xs ≡ length ys → nat_eq (mask_l (zip2 differs xs ys)) 0 ≡ pointwise nat_eq xs ys
no_bit [] [] e = refl
no_bit [] (y ∷ ys) e = absurd (omega arith)
no_bit (x ∷ xs) [] e = absurd (omega arith)
no_bit (x ∷ xs) (y ∷ ys) e = more (nat_eq x y) (mask_l (zip2 differs xs ys)) (pointwise nat_eq xs ys) (no_bit xs ys (omega arith))

-- no lane's bit is set where the lanes are the same
pub lanes_same : (xs ys : List ℕ) → length xs ≡ length ys → length xs ≤ 64 → nat_eq (mask_l (zip2 differs xs ys) % 2 ^ 64) 0 ≡ pointwise nat_eq xs ys
lanes_same xs ys e le =
    ap (λ m. nat_eq m 0) (mask_l-mod (zip2 differs xs ys) 64 (omega (arith, length-zip2 differs xs ys e))) ∙ no_bit xs ys e

-- ---- runs

from_same : (a b : List ℕ) → a ≡ b → pointwise nat_eq a b ≡ true
from_same a b e = (bytes_eq-Decides a b).1 e

clash : (so : Bool) → so ≡ true → so ≡ false → ⊥
clash true e f = cc
clash false e f = cc

differ_if : (a b : List ℕ) (n i : ℕ) → pointwise nat_eq (take n (drop i a)) (take n (drop i b)) ≡ false → (so : Bool) → pointwise nat_eq a b ≡ so → so ≡ false
differ_if a b n i e true is =
    absurd (clash _ (from_same (take n (drop i a)) (take n (drop i b)) (ap (λ s. take n (drop i s)) ((bytes_eq-Decides a b).0 is))) e)
differ_if a b n i e false is = refl

-- a part differs
pub differ : (a b : List ℕ) (n i : ℕ) → pointwise nat_eq (take n (drop i a)) (take n (drop i b)) ≡ false → pointwise nat_eq a b ≡ false
differ a b n i e = differ_if a b n i e (pointwise nat_eq a b) refl

-- one more part is the same
pub same_on : (a b : List ℕ) (n i : ℕ) → take i a ≡ take i b → pointwise nat_eq (take n (drop i a)) (take n (drop i b)) ≡ true → take (i + n) a ≡ take (i + n) b
same_on a b n i before e =
    take-add i n a ∙ ap (λ s. s ++ take n (drop i a)) before ∙ ap (λ s. take i b ++ s) ((bytes_eq-Decides (take n (drop i a)) (take n (drop i b))).0 e)
    ∙ sym (take-add i n b)

fewer : (a b : List ℕ) (i j : ℕ) → i ≤ j → take j a ≡ take j b → take i a ≡ take i b
fewer a b i j le same = sym (take-take i j a le) ∙ ap (take i) same ∙ take-take i j b le

-- the last part decides
pub last_decides : (a b : List ℕ) (n last place : ℕ) → length a ≡ length b → last + n ≡ length a → last ≤ place → take place a ≡ take place b →
    pointwise nat_eq (take n (drop last a)) (take n (drop last b)) ≡ pointwise nat_eq a b
last_decides a b n last place lengths all past same = decided (pointwise nat_eq (take n (drop last a)) (take n (drop last b))) refl
  where
    decided : (so : Bool) → pointwise nat_eq (take n (drop last a)) (take n (drop last b)) ≡ so → so ≡ pointwise nat_eq a b
    decided true is =
        sym (from_same a b (sym (take_all (last + n) a (omega arith)) ∙ same_on a b n last (fewer a b last place past same) is ∙ take_all (last + n) b (omega arith)))
    decided false is = sym (differ a b n last is)
