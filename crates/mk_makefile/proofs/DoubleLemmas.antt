-- Which lines have `::`, and what it means that a name is a target of both kinds of rules.
use Rattle.std.specs.Bool.{Decides}
use Rattle.std.specs.List.{Any, All, list_any, flat_map}
use Rattle.std.proofs.Common.{◌≡◌, ◌∙◌, ◌<◌, ℕ, Bool, true, false, cond, ◌||◌, List, [], ◌∷◌, length, filter, refl, sym, ap, subst, get_or, bytes_eq}
use Rattle.std.proofs.lemmas.Bool.{both_ways, or_left, or_right}
use Rattle.std.proofs.lemmas.Slice.Eq.{bytes_eq-Decides}
use Rattle.std.proofs.lemmas.List.Folds.{list_any-from_Any, list_any-append}
use Rattle.mk_names.specs.Names.{has_name, all_added}
use Rattle.mk_names.proofs.NameLemmas.{all_added-append, has_all_added}
use Rattle.mk_makefile.specs.Doubles.{IsDoubleOf, IsSingleOf, AreApart, HasBothKinds}
use Rattle.mk_makefile.specs.Kinded.{double_targets, single_targets, all_single_targets}
use Rattle.mk_rule_lines.specs.Rules.{has, is_rule, is_double_recipe}
use Rattle.mk_rule_lines.specs.declared.rule_line.RuleLine.{RuleLine}
use Rattle.mk_rule_lines.proofs.KindLemmas.{any_decides, has_decides, rule_decides}

-- ---- lines with `::` and a recipe

-- what such a line has of its name's recipe
abbrev pub part : RuleLine → List RuleLine
part l = cond (is_double_recipe l) (l ∷ []) []

parts_at : (l : RuleLine) (lines : List RuleLine) (b : Bool) → is_double_recipe l ≡ b → flat_map part lines ≡ filter is_double_recipe lines →
    flat_map part (l ∷ lines) ≡ filter is_double_recipe (l ∷ lines)
parts_at l lines true e more = simp e (ap (λ ls. l ∷ ls) more)
parts_at l lines false e more = simp e more

pub parts-filter : (lines : List RuleLine) → flat_map part lines ≡ filter is_double_recipe lines
parts-filter [] = refl
parts-filter (l ∷ lines) = parts_at l lines (is_double_recipe l) refl (parts-filter lines)

pub no_part : (l : RuleLine) → is_double_recipe l ≡ false → part l ≡ []
no_part l e = simp e refl

pub one_part : (l : RuleLine) → is_double_recipe l ≡ true → part l ≡ l ∷ []
one_part l e = simp e refl

-- ---- targets of rules

any-flat_map : (p : List ℕ → Bool) (of : RuleLine → List (List ℕ)) (lines : List RuleLine) →
    list_any p (flat_map of lines) ≡ list_any (λ l. list_any p (of l)) lines
any-flat_map p of [] = refl
any-flat_map p of (l ∷ lines) = list_any-append p (of l) (flat_map of lines) ∙ ap (λ b. list_any p (of l) || b) (any-flat_map p of lines)

chosen_single : (l : RuleLine) → l.is_double ≡ false → is_rule l ≡ true → single_targets l ≡ l.targets
chosen_single l e f = simp (e, f) refl

pub chosen_double : (l : RuleLine) → l.is_double ≡ true → double_targets l ≡ l.targets
chosen_double l e = simp e refl

single_decides : (name : List ℕ) (l : RuleLine) → Decides (has name (single_targets l)) (IsSingleOf name l)
single_decides name l = by l.is_double refl (is_rule l) refl
  where
    by : (d : Bool) → l.is_double ≡ d → (r : Bool) → is_rule l ≡ r → Decides (has name (single_targets l)) (IsSingleOf name l)
    by true e r f = (
      (λ h. absurd (both_ways (has name (single_targets l)) (simp e refl) h)),
      λ is. absurd (both_ways l.is_double is.1 e),
    )
    by false e true f = (
      (λ h. ((rule_decides l).0 f, e, (has_decides name l.targets).0 (sym (ap (has name) (chosen_single l e f)) ∙ h))),
      λ is. ap (has name) (chosen_single l e f) ∙ (has_decides name l.targets).1 is.2,
    )
    by false e false f = (
      (λ h. absurd (both_ways (has name (single_targets l)) (simp (e, f) refl) h)),
      λ is. absurd (both_ways (is_rule l) f ((rule_decides l).1 is.0)),
    )

double_decides : (name : List ℕ) (l : RuleLine) → Decides (has name (double_targets l)) (IsDoubleOf name l)
double_decides name l = by l.is_double refl
  where
    by : (d : Bool) → l.is_double ≡ d → Decides (has name (double_targets l)) (IsDoubleOf name l)
    by true e = (
      (λ h. (e, (has_decides name l.targets).0 (sym (ap (has name) (chosen_double l e)) ∙ h))),
      λ is. ap (has name) (chosen_double l e) ∙ (has_decides name l.targets).1 is.1,
    )
    by false e = (
      (λ h. absurd (both_ways (has name (double_targets l)) (simp e refl) h)),
      λ is. absurd (both_ways l.is_double e is.0),
    )

any_named : (p : List ℕ → Bool) (name : List ℕ) (names : List (List ℕ)) → has name names ≡ true → p name ≡ true → list_any p names ≡ true
any_named p name names h e = let (k, within, at) = (has_decides name names).0 h in list_any-from_Any p names (k, name, within, at, e)

-- one more line is taken in
pub singles_go_on : (names next whole : List (List ℕ)) (l : RuleLine) (left rest : List RuleLine) → left ≡ l ∷ rest → next ≡ all_added names (single_targets l) →
    all_added names (flat_map single_targets left) ≡ whole → all_added next (flat_map single_targets rest) ≡ whole
singles_go_on names next whole l left rest at e h =
    ap (λ ns. all_added ns (flat_map single_targets rest)) e ∙ sym (all_added-append names (single_targets l) (flat_map single_targets rest))
    ∙ ap (λ ls. all_added names (flat_map single_targets ls)) (sym at) ∙ h

-- ---- targets one by one

pub first_among : (n : List ℕ) (left : List (List ℕ)) → has n (n ∷ left) ≡ true
first_among n left = or_left (bytes_eq n n) (has n left) ((bytes_eq-Decides n n).1 refl)

pub later_among : (n name : List ℕ) (left : List (List ℕ)) → has n left ≡ true → has n (name ∷ left) ≡ true
later_among n name left h = or_right (bytes_eq n name) (has n left) h

pub left_among : (p : List ℕ → Bool) (name : List ℕ) (left : List (List ℕ)) (whole : Bool) → p name ≡ false → list_any p (name ∷ left) ≡ whole → list_any p left ≡ whole
left_among p name left whole fails h = ap (λ b. b || list_any p left) (sym fails) ∙ h

-- ---- names with both kinds

module _ (lines : List RuleLine) where
  singles_are : (name : List ℕ) → has_name (all_single_targets lines) name ≡ list_any (λ l. has name (single_targets l)) lines
  singles_are name =
      has_all_added [] (flat_map single_targets lines) name ∙ any-flat_map (bytes_eq name) single_targets lines

  single_is : (name : List ℕ) → has_name (all_single_targets lines) name ≡ true → Any (IsSingleOf name) lines
  single_is name h =
      (any_decides (λ l. has name (single_targets l)) (IsSingleOf name) (single_decides name) lines).0 (sym (singles_are name) ∙ h)

  single_had : (name : List ℕ) → Any (IsSingleOf name) lines → has_name (all_single_targets lines) name ≡ true
  single_had name is =
      singles_are name ∙ (any_decides (λ l. has name (single_targets l)) (IsSingleOf name) (single_decides name) lines).1 is

  abbrev pub IsFree : RuleLine → Type 0
  IsFree l = list_any (has_name (all_single_targets lines)) (double_targets l) ≡ false

  pub are_apart : All IsFree lines → AreApart lines
  are_apart free name (k, l, within, at, double) single =
      both_ways (list_any (has_name (all_single_targets lines)) (double_targets l)) (subst IsFree at (free k l within))
      (any_named (has_name (all_single_targets lines)) name (double_targets l) ((double_decides name l).1 double) (single_had name single))

  pub both_kinds : (k : ℕ) (l : RuleLine) (name : List ℕ) → k < length lines → l ≡ get_or lines k l → has name (double_targets l) ≡ true →
      has_name (all_single_targets lines) name ≡ true → HasBothKinds lines name l.line
  both_kinds k l name within at double single = ((k, l, within, sym at, ((double_decides name l).0 double, refl)), single_is name single)
