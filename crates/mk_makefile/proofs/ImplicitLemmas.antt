-- The forms that are computed are those of the implicit rules of the lines, in their order.
use Rattle.std.specs.List.{All, list_any, flat_map}
use Rattle.std.specs.Option.{option_map_or}
use Rattle.std.proofs.Common.{arith, ◌≡◌, ◌∙◌, ◌≤◌, ℕ, ◌+◌, Bool, true, false, cond, List, [], ◌∷◌, ◌++◌, length, take, drop, map, Option, Some, None, inl, refl, sym, ap, subst}
use Rattle.std.proofs.lemmas.Bool.{both_ways, and_parts, and_from, or_left, or_right}
use Rattle.std.proofs.lemmas.List.{take_at, append-nil}
use Rattle.std.proofs.lemmas.List.Concat.{flat_map-append}
use Rattle.std.proofs.lemmas.List.Folds.{flat_map-map, list_any-append}
use Rattle.std.proofs.lemmas.List.Elements.{All-head, All-tail}
use Rattle.mk_macros.specs.Spelled.{Lacks}
use Rattle.mk_macros.specs.Words.{place_of}
use Rattle.mk_macros.proofs.PatternLemmas.{place_of-at, drop-behind}
use Rattle.mk_macros.proofs.SpelledLemmas.{either, place_of-none}
use Rattle.mk_makefile.specs.ByName.{HasRecipeAt}
use Rattle.mk_rule_lines.specs.Explicit.{words_by}
use Rattle.mk_rule_lines.specs.Patterns.{before_percent, behind_percent}
use Rattle.mk_makefile.specs.Forms.{pattern_form, further_form, forms_of_names, forms_of_line, pattern_forms, suffix_rules as rules_of, pair_forms, single_forms, forms_from, suffix_forms, listed_forms, forms_of}
use Rattle.mk_makefile.specs.Implicit.{IsPatternForm, AreFurtherForms, no_further, a_further, AreLineForms, ArePatternForms, past_lines, a_pattern, other_line, SuffixRule, of_two, of_one, name_of, form_of, in_order, AreSuffixForms, no_rules, a_rule, no_rule, AreForms}
use Rattle.mk_rule_lines.specs.Kinds.{leaves_folders, IsPattern, IsPatternRule, IsWholePatternRule, IsSuffixRuleFor}
use Rattle.mk_makefile.specs.Order.{in_order_of}
use Rattle.mk_rule_lines.specs.Rules.{is_percent, has_percent, is_rule, is_pattern_rule, targets_by}
use Rattle.mk_makefile.specs.Supported.{IsSupported}
use Rattle.mk_makefile.specs.Tests.{is_whole_pattern_rule}
use Rattle.mk_makefile.specs.declared.form.Form.{Form}
use Rattle.mk_rule_lines.specs.declared.rule_line.RuleLine.{RuleLine}
use Rattle.mk_rule_lines.proofs.KindLemmas.{rule_decides, pattern_rule_decides, suffix_rule_for_decides}
use Rattle.mk_makefile.proofs.RecipeLemmas.{Among, has_recipe, had_recipe, only_one, none_among}
use Rattle.mk_makefile.proofs.SupportedLemmas.{whole_rule, whole_rule_is, patterns}

-- ---- pattern rules

module _ (before after : List ℕ) (front : Lacks 37 before) where
  place : place_of 37 (before ++ 37 ∷ after) ≡ Some (length before)
  place = place_of-at 37 before after (place_of-none 37 before front)

  before_is : before_percent (before ++ 37 ∷ after) ≡ before
  before_is =
      ap (λ o. option_map_or (λ i. take i (before ++ 37 ∷ after)) o (before ++ 37 ∷ after)) place ∙ take_at before (37 ∷ after) (length before) refl

  behind_is : behind_percent (before ++ 37 ∷ after) ≡ after
  behind_is = ap (λ o. option_map_or (λ i. drop (i + 1) (before ++ 37 ∷ after)) o []) place ∙ drop-behind before 37 after

module _ (k : ℕ) (l : RuleLine) where
  abbrev form_to : (target : List ℕ) (leader : Option (List ℕ)) (others : List (List ℕ)) → Form
  form_to target leader others = pattern_form k l target leader others

  abbrev all_words : List (List ℕ)
  all_words = words_by false l ++ words_by true l

  abbrev ordinary_count : ℕ
  ordinary_count = length (words_by false l)

  abbrev form_with : (before after : List ℕ) (prerequisites : List (List ℕ)) (ordinary : ℕ) (folders stem : Bool) (n : ℕ) (leader : Option (List ℕ)) (others : List (List ℕ)) → Form
  form_with before after prerequisites ordinary folders stem n leader others =
      record {
        before = before;
        after = after;
        prerequisites = prerequisites;
        ordinary = ordinary;
        leaves_folders = folders;
        takes_empty = stem;
        rule = n;
        leader = leader;
        others = others;
      }

  -- the form that is made of a target is its form
  form_is : (target : List ℕ) (leader : Option (List ℕ)) (others : List (List ℕ)) → IsPattern target →
      IsPatternForm k l target leader others (form_to target leader others)
  form_is target leader others (before, after, is, front, back) =
      let first : before_percent target ≡ before = ap before_percent is ∙ before_is before after front in
      let rest : behind_percent target ≡ after = ap behind_percent is ∙ behind_is before after front in
      record {
        target_is = is ∙ ap (λ (b : List ℕ). b ++ 37 ∷ after) (sym first) ∙ ap (λ (a : List ℕ). before_percent target ++ 37 ∷ a) (sym rest);
        lacks = (subst (Lacks 37) (sym first) front, subst (Lacks 37) (sym rest) back);
        prerequisites = refl;
        ordinary = refl;
        folders = refl;
        stem = refl;
        rule = refl;
        leader_is = refl;
        others_are = refl;
      }

  -- and no other one is
  form_told : (target : List ℕ) (leader : Option (List ℕ)) (others : List (List ℕ)) (form : Form) → IsPatternForm k l target leader others form →
      form_to target leader others ≡ form
  form_told target leader others form is =
      let first : before_percent target ≡ form.before = ap before_percent is.target_is ∙ before_is form.before form.after is.lacks.0 in
      let rest : behind_percent target ≡ form.after = ap behind_percent is.target_is ∙ behind_is form.before form.after is.lacks.0 in
      ap (λ (b : List ℕ). form_with b (behind_percent target) all_words ordinary_count (leaves_folders l.profile target) false k leader others) first
      ∙ ap (λ (a : List ℕ). form_with form.before a all_words ordinary_count (leaves_folders l.profile target) false k leader others) rest
      ∙ ap (λ (ps : List (List ℕ)). form_with form.before form.after ps ordinary_count (leaves_folders l.profile target) false k leader others) (sym is.prerequisites)
      ∙ ap (λ (n : ℕ). form_with form.before form.after form.prerequisites n (leaves_folders l.profile target) false k leader others) (sym is.ordinary)
      ∙ ap (λ (b : Bool). form_with form.before form.after form.prerequisites form.ordinary b false k leader others) (sym is.folders)
      ∙ ap (λ (b : Bool). form_with form.before form.after form.prerequisites form.ordinary form.leaves_folders b k leader others) (sym is.stem)
      ∙ ap (λ (n : ℕ). form_with form.before form.after form.prerequisites form.ordinary form.leaves_folders form.takes_empty n leader others) (sym is.rule)
      ∙ ap (λ (o : Option (List ℕ)). form_with form.before form.after form.prerequisites form.ordinary form.leaves_folders form.takes_empty form.rule o others) (sym is.leader_is)
      ∙ ap (λ (os : List (List ℕ)). form_with form.before form.after form.prerequisites form.ordinary form.leaves_folders form.takes_empty form.rule form.leader os) (sym is.others_are)

  further_are : (leader : List ℕ) (targets : List (List ℕ)) → All IsPattern targets →
      AreFurtherForms k l leader targets (map (further_form k l leader) targets)
  further_are leader [] all = no_further
  further_are leader (target ∷ targets) all =
      a_further (form_is target (Some leader) [] (All-head IsPattern target targets all)) (further_are leader targets (All-tail IsPattern target targets all))

  further_told : (leader : List ℕ) (targets : List (List ℕ)) (forms : List Form) → AreFurtherForms k l leader targets forms →
      map (further_form k l leader) targets ≡ forms
  further_told leader [] forms no_further = refl
  further_told leader (target ∷ targets) forms (a_further {form = form} {forms = more} is rest) =
      ap (λ (f : Form). f ∷ map (further_form k l leader) targets) (form_told target (Some leader) [] form is)
      ∙ ap (λ (fs : List Form). form ∷ fs) (further_told leader targets more rest)

  -- ---- a line

  abbrev LineForms : List (List ℕ) → List Form → Type 0
  LineForms targets forms = l.targets ≡ targets → AreLineForms k l forms

  line_forms : (targets : List (List ℕ)) → list_any has_percent targets ≡ true → IsWholePatternRule l → All IsPattern targets →
      LineForms targets (forms_of_names k l targets)
  line_forms [] some is all at = cc
  line_forms (target ∷ others) some is all at = record {
    is = is;
    target = target;
    others = others;
    targets = at;
    first = form_to target None others;
    further = map (further_form k l target) others;
    whole = refl;
    of_first = form_is target None others (All-head IsPattern target others all);
    of_others = further_are target others (All-tail IsPattern target others all);
  }

  are_line_forms : is_pattern_rule l ≡ true → IsWholePatternRule l → AreLineForms k l (forms_of_line k l)
  are_line_forms e is =
      let some : list_any has_percent l.targets ≡ true = (and_parts (is_rule l) (list_any has_percent l.targets) e).1 in
      subst (AreLineForms k l) (ap (λ (b : Bool). cond b (forms_of_names k l l.targets) []) (sym e))
      (line_forms l.targets some is (patterns l is) refl)

  percent_at : (target : List ℕ) (form : Form) → target ≡ form.before ++ 37 ∷ form.after → has_percent target ≡ true
  percent_at target form is =
      ap has_percent is ∙ list_any-append is_percent form.before (37 ∷ form.after) ∙ or_right (list_any is_percent form.before) true refl

  line_forms_told : (forms : List Form) → AreLineForms k l forms → forms_of_line k l ≡ forms
  line_forms_told forms are =
      let some : list_any has_percent (are.target ∷ are.others) ≡ true
      = or_left (has_percent are.target) (list_any has_percent are.others) (percent_at are.target are.first are.of_first.target_is) in
      let yes : is_pattern_rule l ≡ true
      = and_from (is_rule l) (list_any has_percent l.targets) ((rule_decides l).1 are.is.rule) (ap (list_any has_percent) are.targets ∙ some) in
      ap (λ (b : Bool). cond b (forms_of_names k l l.targets) []) yes
      ∙ ap (λ (ts : List (List ℕ)). forms_of_names k l ts) are.targets
      ∙ ap (λ (f : Form). f ∷ map (further_form k l are.target) are.others) (form_told are.target None are.others are.first are.of_first)
      ∙ ap (λ (fs : List Form). are.first ∷ fs) (further_told are.target are.others are.further are.of_others)
      ∙ sym are.whole

  no_form : is_pattern_rule l ≡ false → forms_of_line k l ≡ []
  no_form e = ap (λ (b : Bool). cond b (forms_of_names k l l.targets) []) e

  whole_of : IsSupported l → is_pattern_rule l ≡ true → IsWholePatternRule l
  whole_of supported e =
      let is : IsPatternRule l = (pattern_rule_decides l).0 e in
      either (IsWholePatternRule l) (is_whole_pattern_rule l) (λ whole. whole_rule l is.0 whole)
      (λ other. absurd (supported.pattern (is, λ rule. both_ways (is_whole_pattern_rule l) other (whole_rule_is l rule))))

are_patterns : (k : ℕ) (lines : List RuleLine) → All IsSupported lines → ArePatternForms k lines (pattern_forms k lines)
are_patterns k [] all = past_lines
are_patterns k (l ∷ lines) all =
    let rest : List Form = pattern_forms (k + 1) lines in
    let more : ArePatternForms (k + 1) lines rest = are_patterns (k + 1) lines (All-tail IsSupported l lines all) in
    either (ArePatternForms k (l ∷ lines) (pattern_forms k (l ∷ lines))) (is_pattern_rule l)
    (λ e. a_pattern (are_line_forms k l e (whole_of k l (All-head IsSupported l lines all) e)) more)
    (λ e. subst (λ (forms : List Form). ArePatternForms k (l ∷ lines) forms) (ap (λ fs. fs ++ rest) (sym (no_form k l e)))
    (other_line (λ is. both_ways (is_pattern_rule l) e ((pattern_rule_decides l).1 is)) more))

patterns_told : (k : ℕ) (lines : List RuleLine) (forms : List Form) → ArePatternForms k lines forms → pattern_forms k lines ≡ forms
patterns_told k [] forms past_lines = refl
patterns_told k (l ∷ lines) forms (a_pattern {own = own} {forms = more} are rest) =
    ap (λ fs. fs ++ pattern_forms (k + 1) lines) (line_forms_told k l own are) ∙ ap (λ fs. own ++ fs) (patterns_told (k + 1) lines more rest)
patterns_told k (l ∷ lines) forms (other_line other rest) =
    let e : is_pattern_rule l ≡ false = either (is_pattern_rule l ≡ false) (is_pattern_rule l) (λ e. absurd (other ((pattern_rule_decides l).0 e))) (λ e. e) in
    ap (λ fs. fs ++ pattern_forms (k + 1) lines) (no_form k l e) ∙ patterns_told (k + 1) lines forms rest

-- ---- suffix rules

flat-flat : {A B C : Type 0} (f : B → List C) (g : A → List B) (xs : List A) → flat_map f (flat_map g xs) ≡ flat_map (λ x. flat_map f (g x)) xs
flat-flat f g [] = refl
flat-flat f g (x ∷ xs) = flat_map-append f (g x) (flat_map g xs) ∙ ap (λ cs. flat_map f (g x) ++ cs) (flat-flat f g xs)

flat_same : {A C : Type 0} (f g : A → List C) → ((x : A) → f x ≡ g x) → (xs : List A) → flat_map f xs ≡ flat_map g xs
flat_same f g same [] = refl
flat_same f g same (x ∷ xs) = ap (λ cs. cs ++ flat_map f xs) (same x) ∙ ap (λ cs. g x ++ cs) (flat_same f g same xs)

module _ (rules : List ℕ → List ℕ) where
  abbrev made : SuffixRule → List Form
  made rule = map (form_of rule) (rules (name_of rule))

  from_one : (suffixes : List (List ℕ)) (s : List ℕ) → flat_map made (map (of_two s) suffixes ++ of_one s ∷ []) ≡ forms_from rules suffixes s
  from_one suffixes s =
      flat_map-append made (map (of_two s) suffixes) (of_one s ∷ [])
      ∙ ap (λ fs. fs ++ flat_map made (of_one s ∷ [])) (flat_map-map made (of_two s) suffixes)
      ∙ ap (λ fs. flat_map (pair_forms rules s) suffixes ++ fs) (append-nil (single_forms rules s))

  all_made : (suffixes : List (List ℕ)) → flat_map made (in_order suffixes) ≡ suffix_forms rules suffixes
  all_made suffixes =
      flat-flat made (λ s. map (of_two s) suffixes ++ of_one s ∷ []) suffixes
      ∙ flat_same (λ s. flat_map made (map (of_two s) suffixes ++ of_one s ∷ [])) (forms_from rules suffixes) (from_one suffixes) suffixes

module _ (suffixes : List (List ℕ)) (lines : List RuleLine) (short : (name : List ℕ) → length (rules_of suffixes lines name) ≤ 1) where
  found : (rule : SuffixRule) (k : ℕ) → Among k (rules_of suffixes lines (name_of rule)) → HasRecipeAt (IsSuffixRuleFor suffixes (name_of rule)) lines k
  found rule k is =
      has_recipe (name_of rule) (targets_by true suffixes) (IsSuffixRuleFor suffixes (name_of rule)) (suffix_rule_for_decides suffixes (name_of rule)) lines k is

  had : (rule : SuffixRule) (k : ℕ) → HasRecipeAt (IsSuffixRuleFor suffixes (name_of rule)) lines k → Among k (rules_of suffixes lines (name_of rule))
  had rule k is =
      had_recipe (name_of rule) (targets_by true suffixes) (IsSuffixRuleFor suffixes (name_of rule)) (suffix_rule_for_decides suffixes (name_of rule)) lines k is

  are_at : (rule : SuffixRule) (rules : List SuffixRule) (rest : List Form) (ks : List ℕ) → rules_of suffixes lines (name_of rule) ≡ ks →
      AreSuffixForms suffixes lines rules rest → AreSuffixForms suffixes lines (rule ∷ rules) (map (form_of rule) ks ++ rest)
  are_at rule rules rest [] e more = no_rule (λ k h. subst (Among k) e (had rule k h)) more
  are_at rule rules rest (k ∷ []) e more = a_rule k (found rule k (subst (Among k) (sym e) (inl refl))) more
  are_at rule rules rest (k ∷ j ∷ js) e more =
      let one : length (rules_of suffixes lines (name_of rule)) ≤ 1 = short (name_of rule) in
      let many : length (rules_of suffixes lines (name_of rule)) ≡ length (k ∷ j ∷ js) = ap length e in
      absurd (omega arith)

  are_suffix_forms : (rules : List SuffixRule) → AreSuffixForms suffixes lines rules (flat_map (made (rules_of suffixes lines)) rules)
  are_suffix_forms [] = no_rules
  are_suffix_forms (rule ∷ rules) =
      are_at rule rules (flat_map (made (rules_of suffixes lines)) rules) (rules_of suffixes lines (name_of rule)) refl (are_suffix_forms rules)

  suffix_forms_told : (rules : List SuffixRule) (forms : List Form) → AreSuffixForms suffixes lines rules forms →
      flat_map (made (rules_of suffixes lines)) rules ≡ forms
  suffix_forms_told [] forms no_rules = refl
  suffix_forms_told (rule ∷ rules) forms (a_rule {forms = more} k is rest) =
      ap (λ (ks : List ℕ). map (form_of rule) ks ++ flat_map (made (rules_of suffixes lines)) rules)
      (only_one (rules_of suffixes lines (name_of rule)) (short (name_of rule)) k (had rule k is))
      ∙ ap (λ fs. form_of rule k ∷ fs) (suffix_forms_told rules more rest)
  suffix_forms_told (rule ∷ rules) forms (no_rule none rest) =
      ap (λ (ks : List ℕ). map (form_of rule) ks ++ flat_map (made (rules_of suffixes lines)) rules)
      (none_among (rules_of suffixes lines (name_of rule)) (λ k is. none k (found rule k is)))
      ∙ suffix_forms_told rules forms rest

  -- ---- all

  pub forms_are : All IsSupported lines → (forms : List Form) → forms_of suffixes lines ≡ forms → AreForms suffixes lines forms
  forms_are supported forms e = record {
    patterns = pattern_forms 0 lines;
    suffix_rules = suffix_forms (rules_of suffixes lines) suffixes;
    whole = sym e;
    are_patterns = are_patterns 0 lines supported;
    are_suffix_rules =
        subst (λ (fs : List Form). AreSuffixForms suffixes lines (in_order suffixes) fs) (all_made (rules_of suffixes lines) suffixes)
        (are_suffix_forms (in_order suffixes));
  }

  pub forms_told : (forms : List Form) → AreForms suffixes lines forms → forms_of suffixes lines ≡ forms
  forms_told forms are =
      let listed : listed_forms suffixes lines ≡ are.patterns ++ are.suffix_rules
      = ap (λ fs. fs ++ suffix_forms (rules_of suffixes lines) suffixes) (patterns_told 0 lines are.patterns are.are_patterns)
      ∙ ap (λ fs. are.patterns ++ fs)
      (sym (all_made (rules_of suffixes lines) suffixes) ∙ suffix_forms_told (in_order suffixes) are.suffix_rules are.are_suffix_rules) in
      ap (in_order_of lines) listed ∙ sym are.whole
