-- What the tests of marks mean, one by one.
use Rattle.std.proofs.Common.{◌≡◌, ℕ, ℤ, zero, suc, Bool, true, false, ◌&&◌, ◌||◌, List, [], ◌∷◌, refl}
use Rattle.std.specs.Prelude.{nat_eq, IsSomeAnd, slice_get}
use Rattle.std.specs.Bool.{Decides}
use Rattle.std.specs.Ordering.{int_eq}
use Rattle.std.proofs.lemmas.Bool.Decides.{Decides-and, Decides-eqb, Decides-int_eq, Decides-like, Decides-not}
use Rattle.mk_verdict.specs.declared.mark.Look.{Look}
use Rattle.mk_verdict.specs.declared.mark.Look.TheVariants.{NoFile, Other, File}
use Rattle.mk_verdict.specs.declared.mark.Mark.{Mark}
use Rattle.mk_verdict.specs.declared.mark.Mark.TheVariants as mark
use Rattle.std.specs.List.{list_any}
use Rattle.mk_verdict.specs.declared.mark.MadeFile.{MadeFile}
use Rattle.mk_verdict.specs.Marks.{mark_of, Differs, IsTimed}
use Rattle.mk_verdict.specs.Tests.{same_look, mark_differs, is_timed, is_replaced}
use Rattle.mk_verdict.specs.Verdict.{HasReplaced}

file_time : (t u : ℤ) (s z : ℕ) → File t s ≡ File u z → t ≡ u
file_time t u s z e = cc

file_size : (t u : ℤ) (s z : ℕ) → File t s ≡ File u z → s ≡ z
file_size t u s z e = cc

same_file : (t u : ℤ) (s z : ℕ) → (t ≡ u) × (s ≡ z) → File t s ≡ File u z
same_file t u s z (e, f) = rw (e, f) refl

file_parts : (t u : ℤ) (s z : ℕ) → File t s ≡ File u z → (t ≡ u) × (s ≡ z)
file_parts t u s z e = (file_time t u s z e, file_size t u s z e)

pub looks_decide : (a b : Look) → Decides (same_look a b) (a ≡ b)
looks_decide NoFile NoFile = ((λ e. refl), λ h. refl)
looks_decide NoFile Other = ((λ e. absurd cc), λ h. absurd cc)
looks_decide NoFile (File t s) = ((λ e. absurd cc), λ h. absurd cc)
looks_decide Other NoFile = ((λ e. absurd cc), λ h. absurd cc)
looks_decide Other Other = ((λ e. refl), λ h. refl)
looks_decide Other (File t s) = ((λ e. absurd cc), λ h. absurd cc)
looks_decide (File t s) NoFile = ((λ e. absurd cc), λ h. absurd cc)
looks_decide (File t s) Other = ((λ e. absurd cc), λ h. absurd cc)
looks_decide (File t s) (File u z) =
    Decides-like (int_eq t u && nat_eq s z) (same_file t u s z) (file_parts t u s z)
    (Decides-and (int_eq t u) (nat_eq s z) (Decides-int_eq t u) (Decides-eqb s z))

pub differs_decides : (m : Mark) (look : Look) → Decides (mark_differs m look) (Differs m look)
differs_decides mark.NotKept look = ((λ e. absurd cc), λ h. absurd h)
differs_decides mark.Unknown look = ((λ e. tt), λ h. refl)
differs_decides (mark.Was was) look = Decides-not (same_look was look) (looks_decide was look)

pub timed_decides : (m : Mark) → Decides (is_timed m) (IsTimed m)
timed_decides mark.NotKept = ((λ e. tt), λ h. refl)
timed_decides mark.Unknown = ((λ e. absurd cc), λ h. absurd h)
timed_decides (mark.Was NoFile) = ((λ e. absurd cc), λ h. absurd cc)
timed_decides (mark.Was Other) = ((λ e. refl), λ h. refl)
timed_decides (mark.Was (File t s)) = ((λ e. absurd cc), λ h. absurd cc)

-- ---- one of several

abbrev Some_at : {X : Type 0} → (P : X → Type 0) → List X → Type 0
Some_at P xs = (i : ℕ) × IsSomeAnd (slice_get xs i) P

here_or_behind : {X : Type 0} (test : X → Bool) (P : X → Type 0) → ((x : X) → Decides (test x) (P x)) → (x : X) (xs : List X) (b : Bool) → test x ≡ b
    → Decides (list_any test xs) (Some_at P xs) → Decides (b || list_any test xs) (Some_at P (x ∷ xs))
here_or_behind test P decides x xs true e rest = ((λ k. (zero, (decides x).0 e)), λ h. refl)
here_or_behind test P decides x xs false e rest = (
  (λ k. let found = rest.0 k in (suc found.0, found.1)),
  λ (i, h). behind i h,
)
  where
    behind : (i : ℕ) → IsSomeAnd (slice_get (x ∷ xs) i) P → list_any test xs ≡ true
    behind zero h = let wrong : test x ≡ true = (decides x).1 h in absurd cc
    behind (suc i) h = rest.1 (i, h)

any_decides : {X : Type 0} (test : X → Bool) (P : X → Type 0) → ((x : X) → Decides (test x) (P x)) → (xs : List X) → Decides (list_any test xs) (Some_at P xs)
any_decides test P decides [] = ((λ e. absurd cc), λ h. absurd h.1)
any_decides test P decides (x ∷ xs) = here_or_behind test P decides x xs (test x) refl (any_decides test P decides xs)

pub replaced_decides : (keeping : Bool) (files : List MadeFile) → Decides (list_any (is_replaced keeping) files) (HasReplaced keeping files)
replaced_decides keeping files =
    any_decides (is_replaced keeping) (λ f. Differs (mark_of keeping f.mark) f.look) (λ f. differs_decides (mark_of keeping f.mark) f.look) files
