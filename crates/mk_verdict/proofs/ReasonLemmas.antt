-- What the tests of a verdict mean, one by one.
use Rattle.std.proofs.Common.{◌≡◌, ℕ, ◌⊎◌, inl, inr, ℤ, Bool, true, false, not, ◌&&◌, ◌||◌, List, Option, Some, None, refl, arith}
use Rattle.std.specs.Prelude.{◌<ℤ◌, int_lt, IsTrue, is_none, nat_eq}
use Rattle.std.specs.Str.{is_utf8}
use Rattle.std.specs.Bool.{Decides}
use Rattle.std.specs.Cmp.Lexicographic.{pointwise}
use Rattle.std.proofs.lemmas.Bool.Decides.{Decides-and, Decides-eqb}
use Rattle.std.proofs.lemmas.Int.{ints}
use Rattle.std.proofs.lemmas.Slice.Eq.{slice_eq-Decides}
use Rattle.mk_verdict.specs.declared.verdict.Prerequisite.{Prerequisite}
use Rattle.mk_verdict.specs.Marks.{mark_of, Differs}
use Rattle.mk_verdict.specs.Tests.{same_strings, is_timed, is_later, is_newer, is_changed, is_gone, counts_as_remade}
use Rattle.mk_verdict.specs.Verdict.{IsLater, IsNewer, IsGone, IsRemade}
use Rattle.mk_verdict.proofs.MarkLemmas.{differs_decides, timed_decides}

same_bytes : (a b : List ℕ) → Decides (pointwise nat_eq a b) (a ≡ b)
same_bytes a b = slice_eq-Decides Decides-eqb a b (pointwise nat_eq a b) refl

pub strings_decide : (a b : List (List ℕ)) → Decides (same_strings a b) (a ≡ b)
strings_decide a b = slice_eq-Decides same_bytes a b (same_strings a b) refl

later_yes : (a b : ℤ) → int_lt a b ≡ true → a <ℤ b
later_yes a b e = grind (arith, ints)

later_no : (a b : ℤ) → a <ℤ b → int_lt a b ≡ true
later_no a b e = grind (arith, ints)

some_is : (a b : ℤ) → Some a ≡ Some b → a ≡ b
some_is a b e = cc

-- a time against that of the target
pub is_later-decides : (stamp target : Option ℤ) → Decides (is_later stamp target) (IsLater stamp target)
is_later-decides None target = ((λ e. absurd cc), λ (p, t, has, is, lt). absurd cc)
is_later-decides (Some s) None = ((λ e. absurd cc), λ (p, t, has, is, lt). absurd cc)
is_later-decides (Some s) (Some u) = (
  (λ e. (s, u, refl, refl, later_yes u s e)),
  λ (p, t, has, is, lt). later_no u s (rw (some_is s p has, some_is u t is) lt),
)

pub is_newer-decides : (keeping : Bool) (target : Option ℤ) (p : Prerequisite) → Decides (is_newer keeping target p) (IsNewer keeping target p)
is_newer-decides keeping target p =
    Decides-and (is_timed (mark_of keeping p.mark)) (is_later p.stamp target) (timed_decides (mark_of keeping p.mark)) (is_later-decides p.stamp target)

pub is_changed-decides : (keeping : Bool) (p : Prerequisite) → Decides (is_changed keeping p) (Differs (mark_of keeping p.mark) p.look)
is_changed-decides keeping p = differs_decides (mark_of keeping p.mark) p.look

gone_decides : (hidden : Bool) (stamp : Option ℤ) (rule text : Bool)
    → Decides (hidden && ((is_none stamp && not rule) || not text)) (IsTrue hidden × (((stamp ≡ None) × (rule ≡ false)) ⊎ (text ≡ false)))
gone_decides false stamp rule text = ((λ e. absurd cc), λ (h, why). absurd cc)
gone_decides true stamp rule false = ((λ e. (refl, inr refl)), λ h. grind arith)
gone_decides true None false true = ((λ e. (refl, inl (refl, refl))), λ h. refl)
gone_decides true None true true = ((λ e. absurd cc), λ (h, why). elim why [ inl both ↦ absurd (let e : true ≡ false = both.1 in cc) | inr wrong ↦ absurd cc ])
gone_decides true (Some s) rule true = ((λ e. absurd cc), λ (h, why). elim why [ inl both ↦ absurd (let e : Some s ≡ None = both.0 in cc) | inr wrong ↦ absurd cc ])

pub is_gone-decides : (p : Prerequisite) → Decides (is_gone p) (IsGone p)
is_gone-decides p = gone_decides p.is_hidden p.stamp p.has_rule (is_utf8 p.name.now)

remade_decides : (orders remade hidden : Bool) → Decides (remade && (orders || not hidden)) (IsTrue remade × (IsTrue hidden → IsTrue orders))
remade_decides orders false hidden = ((λ e. absurd cc), λ (h, why). absurd cc)
remade_decides true true hidden = ((λ e. (refl, λ _. refl)), λ h. refl)
remade_decides false true true = ((λ e. absurd cc), λ (h, why). absurd (let e : false ≡ true = why refl in cc))
remade_decides false true false = ((λ e. (refl, λ e. e)), λ h. refl)

pub counts_as_remade-decides : (orders : Bool) (p : Prerequisite) → Decides (counts_as_remade orders p) (IsRemade orders p)
counts_as_remade-decides orders p = remade_decides orders p.is_remade p.is_hidden
