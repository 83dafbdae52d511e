-- Which lines count, from the last line on.
use Rattle.std.specs.Prelude.{Contains}
use Rattle.std.specs.Bool.{Decides}
use Rattle.std.specs.List.{Any, list_any}
use Rattle.std.specs.Option.{option_map_or}
use Rattle.std.proofs.Common.{◌≡◌, ◌⊎◌, ◌∙◌, ℕ, Bool, true, false, not, ◌&&◌, ◌||◌, List, [], ◌∷◌, ◌++◌, take, reverse, inl, inr, Option, None, refl, sym, ap, subst, bytes_eq}
use Rattle.std.proofs.lemmas.Bool.{both_ways, false_from_ne_true, and_parts, and_from, or_parts}
use Rattle.std.proofs.lemmas.Bool.Decides.{Decides-and, Decides-or, Decides-like}
use Rattle.std.proofs.lemmas.List.Folds.{list_any-append}
use Rattle.std.proofs.lemmas.List.{append_assoc, append-nil, reverse-append}
use Rattle.std.proofs.lemmas.Slice.Eq.{bytes_eq-Decides}
use Rattle.mk_macros.specs.Ranks.{Defined}
use Rattle.mk_macros.specs.Words.{without_front}
use Rattle.mk_profile.specs.declared.profile.Profile.{Profile}
use Rattle.mk_lines.specs.Text.{is_empty}
use Rattle.mk_reader.specs.declared.item.Item.{Item}
use Rattle.mk_reader.specs.declared.special.SpecialName.{SpecialName}
use Rattle.mk_rule_lines.specs.Rules.{has_special}
use Rattle.mk_makefile.specs.InForce.{IsTaking, IsSamePattern, IsSuffixRuleOf, Takes, AreLeft, no_lines, counts, goes, AreInForce, AreLinesInForce}
use Rattle.mk_rule_lines.specs.Lines.{AreRuleLines}
use Rattle.mk_rule_lines.specs.Kinds.{IsRule, IsOnePattern}
use Rattle.mk_rule_lines.specs.Rules.{has, is_rule, lacks_single, may_be_suffix_rule}
use Rattle.mk_makefile.specs.Tests.{is_one_pattern, is_taking, same_word, is_same_pattern, is_joined, names_suffix_rule, names_form, one_names_form, is_suffix_rule_of, takes}
use Rattle.mk_rule_lines.specs.declared.rule_line.RuleLine.{RuleLine}
use Rattle.mk_rule_lines.proofs.KindLemmas.{any_decides, has_decides, empty_decides, rule_decides, single_decides, behind_decides}
use Rattle.mk_makefile.proofs.SupportedLemmas.{one_pattern_decides}

-- ---- one line

pub taking_decides : (l : RuleLine) → Decides (is_taking l) (IsTaking l)
taking_decides l =
    Decides-like (is_taking l)
    (λ h. record { rule = h.1.0; target = h.1.1.0; source = h.1.1.1; no_recipe = h.0 })
    (λ is. (is.no_recipe, (is.rule, (is.target, is.source))))
    (Decides-and (is_empty l.recipe) (is_rule l && (is_one_pattern l.targets && is_one_pattern l.prerequisites)) (empty_decides l.recipe)
    (Decides-and (is_rule l) (is_one_pattern l.targets && is_one_pattern l.prerequisites) (rule_decides l)
    (Decides-and (is_one_pattern l.targets) (is_one_pattern l.prerequisites) (one_pattern_decides l.targets) (one_pattern_decides l.prerequisites))))

word_is : (names others : List (List ℕ)) → same_word names others ≡ true → names ≡ others
word_is (name ∷ []) (other ∷ []) e = ap (λ n. n ∷ []) ((bytes_eq-Decides name other).0 e)
word_is [] others e = absurd cc
word_is (name ∷ more ∷ names) others e = absurd cc
word_is (name ∷ []) [] e = absurd cc
word_is (name ∷ []) (other ∷ more ∷ others) e = absurd cc

one_word : (name : List ℕ) → same_word (name ∷ []) (name ∷ []) ≡ true
one_word name = (bytes_eq-Decides name name).1 refl

itself : (names : List (List ℕ)) → IsOnePattern names → same_word names names ≡ true
itself names (before, after, is, front, back) = ap (λ ns. same_word ns ns) is ∙ one_word (before ++ 37 ∷ after)

same_pattern_decides : (l taking : RuleLine) → IsTaking taking → Decides (is_same_pattern l taking) (IsSamePattern l taking)
same_pattern_decides l taking is = (
  (λ e.
      let words = and_parts (same_word l.targets taking.targets) (same_word l.prerequisites taking.prerequisites) e in
      (word_is l.targets taking.targets words.0, word_is l.prerequisites taking.prerequisites words.1)),
  λ same.
      and_from (same_word l.targets taking.targets) (same_word l.prerequisites taking.prerequisites)
      (ap (λ ns. same_word ns taking.targets) same.0 ∙ itself taking.targets is.target)
      (ap (λ ns. same_word ns taking.prerequisites) same.1 ∙ itself taking.prerequisites is.source),
)

-- ---- the suffix rule of a form

module _ (suffixes : List (List ℕ)) where
  abbrev IsNamed : (name s t : List ℕ) → Type 0
  IsNamed name s t = Contains suffixes s × (((t ≡ []) ⊎ Contains suffixes t) × (name ≡ s ++ t))

  joined_decides : (name s t : List ℕ) → Decides (is_joined name s t) (name ≡ s ++ t)
  joined_decides name s t =
      Decides-like (is_joined name s t) (λ h. h.1 ∙ ap (λ r. s ++ r) h.2) (λ is. (t, is, refl))
      (behind_decides (λ rest. bytes_eq rest t) (λ rest. rest ≡ t) (λ rest. bytes_eq-Decides rest t) s name)

  named_decides : (name s t : List ℕ) → Decides (names_suffix_rule suffixes name s t) (IsNamed name s t)
  named_decides name s t =
      Decides-and (has s suffixes) ((is_empty t || has t suffixes) && is_joined name s t) (has_decides s suffixes)
      (Decides-and (is_empty t || has t suffixes) (is_joined name s t)
      (Decides-or (is_empty t) (has t suffixes) (empty_decides t) (has_decides t suffixes)) (joined_decides name s t))

  abbrev IsSourceOf : (name t source : List ℕ) → Type 0
  IsSourceOf name t source = (s : List ℕ) × (source ≡ 37 ∷ s) × (IsNamed name s t)

  abbrev IsForm : (name target source : List ℕ) → Type 0
  IsForm name target source = (t : List ℕ) × (target ≡ 37 ∷ t) × IsSourceOf name t source

  form_decides : (name target source : List ℕ) → Decides (names_form suffixes name target source) (IsForm name target source)
  form_decides name target source =
      behind_decides (λ t. option_map_or (λ s. names_suffix_rule suffixes name s t) (without_front (37 ∷ []) source) false)
      (λ t. IsSourceOf name t source)
      (λ t. behind_decides (λ s. names_suffix_rule suffixes name s t) (λ s. IsNamed name s t) (λ s. named_decides name s t) (37 ∷ []) source)
      (37 ∷ []) target

  abbrev AreForm : (names targets sources : List (List ℕ)) → Type 0
  AreForm names targets sources =
      (name : List ℕ) × (names ≡ name ∷ []) × (target : List ℕ) × (targets ≡ target ∷ []) × (source : List ℕ) × (sources ≡ source ∷ []) × (IsForm name target source)

  form_of_one : (names targets sources : List (List ℕ)) → one_names_form suffixes names targets sources ≡ true → AreForm names targets sources
  form_of_one (name ∷ []) (target ∷ []) (source ∷ []) e = (name, refl, target, refl, source, refl, (form_decides name target source).0 e)
  form_of_one [] targets sources e = absurd cc
  form_of_one (name ∷ more ∷ names) targets sources e = absurd cc
  form_of_one (name ∷ []) [] sources e = absurd cc
  form_of_one (name ∷ []) (target ∷ more ∷ targets) sources e = absurd cc
  form_of_one (name ∷ []) (target ∷ []) [] e = absurd cc
  form_of_one (name ∷ []) (target ∷ []) (source ∷ more ∷ sources) e = absurd cc

  suffix_rule_of : (l taking : RuleLine) → is_suffix_rule_of suffixes l taking ≡ true → IsSuffixRuleOf suffixes l taking
  suffix_rule_of l taking e =
      let whole = and_parts (may_be_suffix_rule l) (one_names_form suffixes l.targets taking.targets taking.prerequisites) e in
      let may = and_parts (is_empty l.prerequisites) (not (lacks_single l)) whole.0 in
      let (name, names, target, targets, source, sources, form) = form_of_one l.targets taking.targets taking.prerequisites whole.1 in
      let (t, target_is, of_source) = form in
      let (s, source_is, named) = of_source in
      record {
        s = s;
        t = t;
        first = named.0;
        second = (named.1).0;
        targets = names ∙ ap (λ n. n ∷ []) (named.1).1;
        prerequisites = (empty_decides l.prerequisites).0 may.0;
        recipe = (single_decides l).0 may.1;
        target = targets ∙ ap (λ n. n ∷ []) target_is;
        source = sources ∙ ap (λ n. n ∷ []) source_is;
      }

  is_suffix_rule : (l taking : RuleLine) → IsSuffixRuleOf suffixes l taking → is_suffix_rule_of suffixes l taking ≡ true
  is_suffix_rule l taking is =
      let name : List ℕ = is.s ++ is.t in
      and_from (may_be_suffix_rule l) (one_names_form suffixes l.targets taking.targets taking.prerequisites)
      (and_from (is_empty l.prerequisites) (not (lacks_single l)) ((empty_decides l.prerequisites).1 is.prerequisites) ((single_decides l).1 is.recipe))
      (ap (λ ns. one_names_form suffixes ns taking.targets taking.prerequisites) is.targets
      ∙ ap (λ ns. one_names_form suffixes (name ∷ []) ns taking.prerequisites) is.target
      ∙ ap (λ ns. one_names_form suffixes (name ∷ []) ((37 ∷ is.t) ∷ []) ns) is.source
      ∙ (form_decides name (37 ∷ is.t) (37 ∷ is.s)).1 (is.t, refl, (is.s, refl, (is.first, (is.second, refl)))))

  forms_decide : (l taking : RuleLine) → IsTaking taking →
      Decides (is_same_pattern l taking || is_suffix_rule_of suffixes l taking) (IsSamePattern l taking ⊎ IsSuffixRuleOf suffixes l taking)
  forms_decide l taking is =
      Decides-or (is_same_pattern l taking) (is_suffix_rule_of suffixes l taking) (same_pattern_decides l taking is)
      (suffix_rule_of l taking, is_suffix_rule l taking)

  -- ---- what is taken away

  pub takes_decides : (l taking : RuleLine) → Decides (takes suffixes l taking) (Takes suffixes l taking)
  takes_decides l taking = (
    (λ e.
        let whole = and_parts (is_rule l) ((is_same_pattern l taking || is_suffix_rule_of suffixes l taking) && is_taking taking) e in
        let rest = and_parts (is_same_pattern l taking || is_suffix_rule_of suffixes l taking) (is_taking taking) whole.1 in
        let is = (taking_decides taking).0 rest.1 in
        record {
          is_taking = is;
          rule = (rule_decides l).0 whole.0;
          form = (forms_decide l taking is).0 rest.0;
        }),
    λ t.
        and_from (is_rule l) ((is_same_pattern l taking || is_suffix_rule_of suffixes l taking) && is_taking taking) ((rule_decides l).1 t.rule)
        (and_from (is_same_pattern l taking || is_suffix_rule_of suffixes l taking) (is_taking taking) ((forms_decide l taking t.is_taking).1 t.form)
        ((taking_decides taking).1 t.is_taking)),
  )

-- ---- the lines from the last one on

-- the lines that are left to look at, and what is found of those below them: which take rules away, and which count
pub record SoFar (suffixes : List (List ℕ)) (whole lines taking left : List RuleLine) : Type 0 where
  pub below : List RuleLine
  pub parted : whole ≡ lines ++ below
  pub same : (l : RuleLine) → list_any (takes suffixes l) taking ≡ list_any (takes suffixes l) below
  pub are : AreLeft suffixes below (reverse left)

pub so_far_start : (suffixes : List (List ℕ)) (whole : List RuleLine) → SoFar suffixes whole whole [] []
so_far_start suffixes whole = record { below = []; parted = sym (append-nil whole); same = λ l. refl; are = no_lines }

or_swap : (a b : Bool) → (a || (b || false)) ≡ (b || a)
or_swap true true = refl
or_swap true false = refl
or_swap false true = refl
or_swap false false = refl

or_none : (a b : Bool) → a ≡ false → b ≡ (a || b)
or_none true b e = cc
or_none false b e = refl

module _ (suffixes : List (List ℕ)) (whole lines rest taking left : List RuleLine) (l : RuleLine) (at : lines ≡ rest ++ l ∷ []) (so : SoFar suffixes whole lines taking left) where
  parted_on : whole ≡ rest ++ l ∷ so.below
  parted_on = so.parted ∙ ap (λ ls. ls ++ so.below) at ∙ append_assoc rest (l ∷ []) so.below

  any_below : list_any (takes suffixes l) taking ≡ true → Any (Takes suffixes l) so.below
  any_below e = (any_decides (takes suffixes l) (Takes suffixes l) (takes_decides suffixes l) so.below).0 (sym (so.same l) ∙ e)

  none_below : list_any (takes suffixes l) taking ≡ false → Any (Takes suffixes l) so.below → ⊥
  none_below e any = both_ways (list_any (takes suffixes l) so.below) (sym (so.same l) ∙ e) ((any_decides (takes suffixes l) (Takes suffixes l) (takes_decides suffixes l) so.below).1 any)

  taking_none : (m : RuleLine) → is_taking l ≡ false → takes suffixes m l ≡ false
  taking_none m apart = false_from_ne_true (takes suffixes m l) (λ e. both_ways (is_taking l) apart ((taking_decides l).1 ((takes_decides suffixes m l).0 e).is_taking))

  -- a line that takes nothing away is none of those that do
  still : is_taking l ≡ false → (m : RuleLine) → list_any (takes suffixes m) taking ≡ list_any (takes suffixes m) (l ∷ so.below)
  still apart m = so.same m ∙ or_none (takes suffixes m l) (list_any (takes suffixes m) so.below) (taking_none m apart)

  -- the next line takes rules away
  pub so_far_taking : is_taking l ≡ true → SoFar suffixes whole rest (taking ++ l ∷ []) left
  so_far_taking e = record {
    below = l ∷ so.below;
    parted = parted_on;
    same = λ m. list_any-append (takes suffixes m) taking (l ∷ []) ∙ or_swap (list_any (takes suffixes m) taking) (takes suffixes m l) ∙ ap (λ t. takes suffixes m l || t) (so.same m);
    are = goes (inl ((taking_decides l).0 e)) so.are;
  }

  -- it is taken away
  pub so_far_taken : is_taking l ≡ false → list_any (takes suffixes l) taking ≡ true → SoFar suffixes whole rest taking left
  so_far_taken apart e = record { below = l ∷ so.below; parted = parted_on; same = still apart; are = goes (inr (any_below e)) so.are }

  -- it counts
  pub so_far_counts : is_taking l ≡ false → list_any (takes suffixes l) taking ≡ false → SoFar suffixes whole rest taking (left ++ l ∷ [])
  so_far_counts apart e = record {
    below = l ∷ so.below;
    parted = parted_on;
    same = still apart;
    are =
        subst (AreLeft suffixes (l ∷ so.below)) (sym (reverse-append left (l ∷ [])))
        (counts (λ is. both_ways (is_taking l) apart ((taking_decides l).1 is)) (none_below e) so.are);
  }

pub so_far_end : (suffixes : List (List ℕ)) (whole lines taking left : List RuleLine) → lines ≡ [] → SoFar suffixes whole lines taking left → AreLeft suffixes whole (reverse left)
so_far_end suffixes whole lines taking left none so =
    subst (λ ls. AreLeft suffixes ls (reverse left)) (sym (so.parted ∙ ap (λ ls. ls ++ so.below) none)) so.are

-- ---- all lines

-- of the same lines the same are left
pub left_once : (suffixes : List (List ℕ)) (lines a b : List RuleLine) → AreLeft suffixes lines a → AreLeft suffixes lines b → a ≡ b
left_once s _ _ _ no_lines no_lines = refl
left_once s _ _ _ (counts {l = l} {left = a} apart none more) (counts {left = b} apart2 none2 more2) = ap (λ ls. l ∷ ls) (left_once s _ a b more more2)
left_once s _ _ _ (counts apart none more) (goes (inl is) more2) = absurd (apart is)
left_once s _ _ _ (counts apart none more) (goes (inr is) more2) = absurd (none is)
left_once s _ _ _ (goes (inl is) more) (counts apart none more2) = absurd (apart is)
left_once s _ _ _ (goes (inr is) more) (counts apart none more2) = absurd (none is)
left_once s _ _ _ (goes is more) (goes is2 more2) = left_once s _ _ _ more more2

-- the lines that count in the language of the definitions
pub lines_are : (given : Defined) (items : List Item) (all left : List RuleLine) (profile : Profile) → AreRuleLines given items all → profile ≡ given.language →
    AreInForce profile all left → AreLinesInForce given items left
lines_are given items all left profile are same counted = record { lines = all; are = are; in_force = subst (λ p. AreInForce p all left) same counted }

-- no line of a special rule goes
plain_gone : (is_it : Option SpecialName → Bool) → is_it None ≡ false → (l : RuleLine) → IsRule l → (t : Bool) → t ≡ (is_it l.special || t)
plain_gone is_it none l rule t = sym (ap (λ s. is_it s || t) rule ∙ ap (λ b. b || t) none)

pub special_left : (is_it : Option SpecialName → Bool) → is_it None ≡ false → (suffixes : List (List ℕ)) (lines left : List RuleLine) → AreLeft suffixes lines left →
    has_special is_it left ≡ has_special is_it lines
special_left is_it none s _ _ no_lines = refl
special_left is_it none s _ _ (counts {l = l} {lines = ls} {left = left} apart other more) = ap (λ b. is_it l.special || b) (special_left is_it none s ls left more)
special_left is_it none s _ _ (goes {l = l} {lines = ls} {left = left} (inl is) more) =
    special_left is_it none s ls left more ∙ plain_gone is_it none l is.rule (has_special is_it ls)
special_left is_it none s _ _ (goes {l = l} {lines = ls} {left = left} (inr (k, m, within, at, is)) more) =
    special_left is_it none s ls left more ∙ plain_gone is_it none l is.rule (has_special is_it ls)

none_takes : (suffixes : List (List ℕ)) (l : RuleLine) (lines : List RuleLine) → list_any is_taking lines ≡ false → Any (Takes suffixes l) lines → ⊥
none_takes suffixes l lines none (k, x, within, at, is) =
    both_ways (list_any is_taking lines) none ((any_decides is_taking IsTaking taking_decides lines).1 (k, x, within, at, is.is_taking))

-- where no line takes others away, all count
pub all_left : (suffixes : List (List ℕ)) (lines : List RuleLine) → list_any is_taking lines ≡ false → AreLeft suffixes lines lines
all_left suffixes [] none = no_lines
all_left suffixes (l ∷ lines) none =
    let parts = or_parts (is_taking l) (list_any is_taking lines) none in
    counts (λ is. both_ways (is_taking l) parts.0 ((taking_decides l).1 is)) (none_takes suffixes l lines parts.1) (all_left suffixes lines parts.1)
