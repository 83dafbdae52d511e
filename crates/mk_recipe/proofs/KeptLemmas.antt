-- The line that two texts give, and what the state keeps of it.
use Rattle.std.specs.Prelude.{◌⊎◌, ◌↔◌, ◌==◌, IsTrue, if◌then◌else◌, codes}
use Rattle.std.specs.Bool.{Decides}
use Rattle.std.proofs.Common.{◌≡◌, ◌∙◌, ℕ, Bool, true, false, not, ◌&&◌, ◌||◌, eqb, List, [], ◌∷◌, ◌++◌, Option, Some, None, inl, inr, refl, sym, ap, subst}
use Rattle.std.proofs.lemmas.Bool.Decides.{Decides-eqb, Decides-or, Decides-and}
use Rattle.mk_macros.specs.Mention.{RefersToNewer}
use Rattle.mk_profile.specs.Profile.{is_wide}
use Rattle.mk_profile.specs.declared.profile.Profile.{Profile}
use Rattle.mk_recipe.specs.declared.line.Line.{Line}
use Rattle.mk_recipe.specs.Line.{front, text_of, has, is_blank_text, StandsIn, CallsMake, IsExempt, IsAlwaysRun, IsLine, text_kept, IsKept}

-- ---- whether bytes stand in a text is decided

abbrev BeginsWith : (bytes text : List ℕ) → Type 0
BeginsWith bytes text = (behind : List ℕ) × (text ≡ bytes ++ behind)

abbrev Decided : Type 0 → Type 0
Decided P = (b : Bool) × Decides b P

begins_more : (x y : ℕ) (xs ys : List ℕ) (b : Bool) → eqb x y ≡ b → Decided (BeginsWith xs ys) → Decided (BeginsWith (x ∷ xs) (y ∷ ys))
begins_more x y xs ys false e rest =
    (false, ((λ (yes : false ≡ true). absurd cc), λ (behind, is). let same : x ≡ y = cc in let t : eqb x y ≡ true = (Decides-eqb x y).1 same in absurd cc))
begins_more x y xs ys true e (b, (here, none)) =
    let same : x ≡ y = (Decides-eqb x y).0 e in
    (b, ((λ is. let (behind, rest) = here is in (behind, (let whole : y ∷ ys ≡ x ∷ (xs ++ behind) = cc in whole))), λ (behind, is). none (behind, (let tail : ys ≡ xs ++ behind = cc in tail))))

begins : (bytes text : List ℕ) → Decided (BeginsWith bytes text)
begins [] text = (true, ((λ e. (text, refl)), λ is. refl))
begins (x ∷ xs) [] = (false, ((λ (yes : false ≡ true). absurd cc), λ (behind, is). absurd cc))
begins (x ∷ xs) (y ∷ ys) = begins_more x y xs ys (eqb x y) refl (begins xs ys)

at_front : (bytes text : List ℕ) → BeginsWith bytes text → StandsIn bytes text
at_front bytes text (behind, is) = ([], behind, is)

further : (bytes : List ℕ) (y : ℕ) (ys : List ℕ) → StandsIn bytes ys → StandsIn bytes (y ∷ ys)
further bytes y ys (before, behind, is) = (y ∷ before, behind, ap (λ zs. y ∷ zs) is)

stands_split : (bytes : List ℕ) (y : ℕ) (ys : List ℕ) → StandsIn bytes (y ∷ ys) → BeginsWith bytes (y ∷ ys) ⊎ StandsIn bytes ys
stands_split bytes y ys ([], behind, is) = inl (behind, is)
stands_split bytes y ys (z ∷ before, behind, is) = inr (before, behind, (let tail : ys ≡ before ++ (bytes ++ behind) = cc in tail))

stands_in_nothing : (bytes : List ℕ) → StandsIn bytes [] → BeginsWith bytes []
stands_in_nothing bytes ([], behind, is) = (behind, is)
stands_in_nothing bytes (z ∷ before, behind, is) = absurd cc

stands_more : (bytes : List ℕ) (y : ℕ) (ys : List ℕ) → Decided (BeginsWith bytes (y ∷ ys)) → Decided (StandsIn bytes ys) → Decided (StandsIn bytes (y ∷ ys))
stands_more bytes y ys (true, (here, none)) rest = (true, ((λ e. at_front bytes (y ∷ ys) (here refl)), λ is. refl))
stands_more bytes y ys (false, (here, nowhere)) (b, (there, none)) =
    (b, ((λ e. further bytes y ys (there e)), λ is. elim (stands_split bytes y ys is) [ inl begun ↦ absurd (let e : false ≡ true = nowhere begun in cc) | inr behind ↦ none behind ]))

stands : (bytes text : List ℕ) → Decided (StandsIn bytes text)
stands bytes [] = let (b, (here, none)) = begins bytes [] in (b, ((λ e. at_front bytes [] (here e)), λ is. none (stands_in_nothing bytes is)))
stands bytes (y ∷ ys) = stands_more bytes y ys (begins bytes (y ∷ ys)) (stands bytes ys)

calls : (unexpanded : List ℕ) → Decided (CallsMake unexpanded)
calls unexpanded =
    let (a, first) = stands (codes "$(MAKE)") unexpanded in
    let (b, other) = stands (codes "${MAKE}") unexpanded in
    (a || b, Decides-or a b first other)

always_run : (profile : Profile) (unexpanded expanded : List ℕ) → Decided (IsAlwaysRun profile unexpanded expanded)
always_run profile unexpanded expanded =
    let (b, decides) = calls unexpanded in (
      is_wide profile && (has 43 (front expanded) || b),
      Decides-and (is_wide profile) (has 43 (front expanded) || b) ((λ e. e), λ e. e)
          (Decides-or (has 43 (front expanded)) b ((λ e. e), λ e. e) decides),
    )

-- ---- the line

abbrev line_of : Profile → (unexpanded expanded : List ℕ) → (exempt : Bool) → Line
line_of profile unexpanded expanded exempt = record {
  text = text_of expanded;
  is_printed = not (has 64 (front expanded)) && not (is_blank_text (text_of expanded));
  is_ignored = has 45 (front expanded);
  is_exempt = exempt;
  is_always_run = (always_run profile unexpanded expanded).0;
}

kept_so : (exempt blank : Bool) (text : List ℕ) → (if exempt || blank then None else Some text) ≡ (if not exempt && not blank then Some text else None)
kept_so true blank text = refl
kept_so false true text = refl
kept_so false false text = refl

-- the prefixes and the text that a line was parted in, and whether it is exempt
module _ (profile : Profile) (unexpanded expanded prefixes text : List ℕ) (in_front : prefixes ≡ front expanded) (behind : text ≡ text_of expanded)
    (exempt : Bool) (is_exempt : IsTrue exempt ↔ ((has 33 prefixes ≡ false) × (IsTrue (has 63 prefixes) ⊎ RefersToNewer (is_wide profile) unexpanded))) where
  exempts : IsTrue exempt ↔ IsExempt profile unexpanded expanded
  exempts = subst (λ bytes. IsTrue exempt ↔ ((has 33 bytes ≡ false) × (IsTrue (has 63 bytes) ⊎ RefersToNewer (is_wide profile) unexpanded))) in_front is_exempt

  kept : (blank : Bool) → is_blank_text text ≡ blank → IsKept profile unexpanded expanded (if exempt || blank then None else Some text)
  kept blank is = record {
    line = line_of profile unexpanded expanded exempt;
    is_line = record { text = refl; printed = refl; ignored = refl; exempt = exempts; always = (always_run profile unexpanded expanded).1 };
    is_kept =
        kept_so exempt blank text ∙ ap (λ b. if not exempt && not b then Some text else None) (sym is)
        ∙ ap (λ t. if not exempt && not (is_blank_text t) then Some t else None) behind;
  }

  pub kept_exempt : exempt ≡ true → IsKept profile unexpanded expanded None
  kept_exempt yes_so =
      subst (λ b. IsKept profile unexpanded expanded (if b || is_blank_text text then None else Some text)) yes_so (kept (is_blank_text text) refl)

  pub kept_blank : exempt ≡ false → is_blank_text text ≡ true → IsKept profile unexpanded expanded None
  kept_blank no_exempt blank = subst (λ b. IsKept profile unexpanded expanded (if b || true then None else Some text)) no_exempt (kept true blank)

  pub kept_whole : exempt ≡ false → is_blank_text text ≡ false → IsKept profile unexpanded expanded (Some text)
  kept_whole no_exempt blank = subst (λ b. IsKept profile unexpanded expanded (if b || false then None else Some text)) no_exempt (kept false blank)

-- where the unexpanded text has no reference to `$?`, the prefixes alone exempt a line
pub exempt_by_prefixes : (prefixes unexpanded : List ℕ) (wide exempt : Bool) → (RefersToNewer wide unexpanded → ⊥) →
    IsTrue exempt ↔ ((has 33 prefixes ≡ false) × IsTrue (has 63 prefixes)) →
    IsTrue exempt ↔ ((has 33 prefixes ≡ false) × (IsTrue (has 63 prefixes) ⊎ RefersToNewer wide unexpanded))
exempt_by_prefixes prefixes unexpanded wide exempt none is = (
  (λ e. let (unforced, marked) = is.0 e in (unforced, inl marked)),
  λ (unforced, why). elim why [ inl marked ↦ is.1 (unforced, marked) | inr refers ↦ absurd (none refers) ],
)
