-- The tests of files that are as they were decide what they mean.
use Rattle.std.proofs.Common.{◌≡◌, ℕ, ℤ, zero, suc, ◌<◌, false, ◌&&◌, List, [], ◌∷◌, length, drop, refl, arith}
use Rattle.std.specs.Prelude.{nat_eq}
use Rattle.std.specs.Bool.{Decides}
use Rattle.std.specs.Ordering.{int_eq}
use Rattle.std.proofs.lemmas.Bool.Decides.{Decides-and, Decides-eqb, Decides-int_eq, Decides-like}
use Rattle.jb_marks.specs.declared.sights.Sight.{Sight}
use Rattle.jb_marks.specs.declared.sights.Sight.TheVariants.{NoFile, Other, File}
use Rattle.jb_marks.specs.Same.{IsStill, IsSame}
use Rattle.jb_marks.specs.Tests.{is_still, is_same}

same_file : (t u c d : ℤ) (s z : ℕ) → (t ≡ u) × ((s ≡ z) × (c ≡ d)) → File u z d ≡ File t s c
same_file t u c d s z (e, (f, g)) = rw (e, f, g) refl

file_parts : (t u c d : ℤ) (s z : ℕ) → File u z d ≡ File t s c → (t ≡ u) × ((s ≡ z) × (c ≡ d))
file_parts t u c d s z e = let time : t ≡ u = cc in let size : s ≡ z = cc in let changed : c ≡ d = cc in (time, (size, changed))

pub still_decides : (a b : Sight) → Decides (is_still a b) (IsStill a b)
still_decides NoFile b = ((λ e. absurd cc), λ h. absurd h)
still_decides Other b = ((λ e. absurd cc), λ h. absurd h)
still_decides (File t s c) NoFile = ((λ e. absurd cc), λ h. absurd cc)
still_decides (File t s c) Other = ((λ e. absurd cc), λ h. absurd cc)
still_decides (File t s c) (File u z d) =
    Decides-like (int_eq t u && (nat_eq s z && int_eq c d)) (same_file t u c d s z) (file_parts t u c d s z)
    (Decides-and (int_eq t u) (nat_eq s z && int_eq c d) (Decides-int_eq t u)
    (Decides-and (nat_eq s z) (int_eq c d) (Decides-eqb s z) (Decides-int_eq c d)))

pub same_decides : (before behind : List Sight) → Decides (is_same before behind) (IsSame before behind)
same_decides [] [] = ((λ e. tt), λ h. refl)
same_decides [] (b ∷ behind) = ((λ e. absurd cc), λ h. absurd h)
same_decides (a ∷ before) [] = ((λ e. absurd cc), λ h. absurd h)
same_decides (a ∷ before) (b ∷ behind) =
    Decides-and (is_still a b) (is_same before behind) (still_decides a b) (same_decides before behind)

-- files are left, and no looks behind
pub nothing_left : (before : List Sight) (i : ℕ) → i < length before → is_same (drop i before) [] ≡ false
nothing_left [] i within = absurd (omega arith)
nothing_left (a ∷ before) zero within = refl
nothing_left (a ∷ before) (suc i) within = nothing_left before i (omega arith)

pub none_of : (sights : List Sight) → length sights < 1 → sights ≡ []
none_of [] few = refl
none_of (a ∷ sights) few = absurd (omega arith)
