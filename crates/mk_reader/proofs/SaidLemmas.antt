-- The code's definition of a statement's form gives what the grammar says.
use Rattle.std.proofs.Common.{◌≡◌, ℕ, ◌+◌, Bool, true, false, cond, not, ◌&&◌, ◌||◌, ◌==◌, List, [], ◌∷◌, ◌++◌, length, take, drop, reverse, refl, sym, ap, subst, ◌∙◌, inl, inr, Option, Some, None, Err, slice_index, codes, bytes_eq}
use Rattle.std.proofs.lemmas.Bool.Decides.{Decides-eqb}
use Rattle.std.proofs.lemmas.Slice.Eq.{bytes_eq-Decides}
use Rattle.std.specs.List.{list_any, list_all}
use Rattle.std.proofs.lemmas.List.{take-append-drop}
use Rattle.std.proofs.lemmas.List.Folds.{list_all-append}
use Rattle.byte_strings.specs.Blanks.{is_blank, trimmed_start, trimmed, first_word}
use Rattle.mk_profile.specs.Profile.{is_wide}
use Rattle.mk_profile.specs.declared.profile.Profile.{Profile}
use Rattle.mk_lines.specs.Text.{is_empty, begins_with, ends_with, without_last}
use Rattle.mk_reader.specs.Special.{special_name}
use Rattle.mk_reader.specs.Spelled.{IsCut, HasNone, Padded, AllBlank, SpellsName, SpellsAssignment, SpellsSign, SpellsColon, IsShell, SpellsRuleSign, SpellsEnd, SpellsRule, HasSpecial, is_refused_with}
use Rattle.mk_reader.specs.Grammar.{refusal, first_line, IsStatement}
use Rattle.mk_lines.specs.Quoted.{signs_in}
use Rattle.mk_lines.specs.References.{first_outside}
use Rattle.mk_reader.specs.Form.{defined_as, is_no_name, named_form, kind_form, optional_form, assigned_form, definition_form, prerequisites_of, recipe_of, judged_form, rule_form, begins_shell_definition, double_form, set_form, colon_form, unsigned_form, decided_form}
use Rattle.mk_reader.specs.declared.special.SpecialName.{SpecialName}
use Rattle.mk_reader.specs.declared.item.DefinitionKind.{DefinitionKind}
use Rattle.mk_reader.specs.declared.item.DefinitionKind.TheVariants.{IfUndefined, AtOnce, AtOnceAlone, Output}
use Rattle.mk_reader.specs.declared.item.Rule.{Rule}
use Rattle.mk_reader.specs.declared.fault.Feature.TheVariants as feature
use Rattle.mk_reader.specs.declared.fault.Cause.TheVariants as cause
use Rattle.mk_lines.specs.declared.reference.Place.TheVariants.{Outside}
use Rattle.mk_lines.proofs.ReferenceLemmas.{either, or_false, Said, said, and_true}
use Rattle.mk_reader.proofs.BlankLemmas.{begins_is, start_cut, trimmed_start_of, trimmed_padded}
use Rattle.mk_lines.proofs.QuotedLemmas.{cut_seen}
use Rattle.mk_lines.proofs.SpellingLemmas.{ends_at}
use Rattle.mk_reader.proofs.TestLemmas.{Told, by_test, empty_is, cut_first, not_false}
use Rattle.mk_lines.proofs.CutLemmas.{one_of, not_true, cut_left, cut_right, cut_byte}
use Rattle.mk_reader.proofs.WordLemmas.{has_special}
use Rattle.mk_reader.proofs.ConditionalLemmas.{is_unset, set_parts, set_taken}

core_blank : (text : List ℕ) → Padded text [] → AllBlank text
core_blank text (front, back, e, f, b, first, last) = ap (list_all is_blank) e ∙ list_all-append is_blank front back ∙ ap (λ t. t && list_all is_blank back) f ∙ b

pub shell_said : (right : List ℕ) → begins_shell_definition right ≡ true → IsShell right
unfolding begins_shell_definition
shell_said right h =
    let parts = and_true (bytes_eq (take 2 right) (codes "sh")) (begins_with 61 (trimmed_start (drop 2 right))) h in
    let front : take 2 right ≡ codes "sh" = (bytes_eq-Decides (take 2 right) (codes "sh")).0 parts.0 in
    let rest = begins_is 61 (trimmed_start (drop 2 right)) parts.1 in
    let cut = start_cut (drop 2 right) in (
      cut.0,
      rest.0,
      sym (take-append-drop 2 right) ∙ ap (λ xs. xs ++ drop 2 right) front
          ∙ ap (λ xs. codes "sh" ++ xs) (cut.1 ∙ ap (λ xs. cut.0 ++ xs) rest.1),
      cut.2,
    )

pub shell_back : (right : List ℕ) → IsShell right → begins_shell_definition right ≡ true
unfolding begins_shell_definition
shell_back right (blanks, rest, e, blank) =
    ap (λ xs. bytes_eq (take 2 xs) (codes "sh") && begins_with 61 (trimmed_start (drop 2 xs))) e
    ∙ ap (begins_with 61) (trimmed_start_of blanks (61 ∷ rest) blank refl)

both : (a b : Bool) → (a && b) ≡ true → (a ≡ true) × (b ≡ true)
both true b h = (refl, h)
both false b h = absurd (cc h)

module _ (file : List ℕ) (number : ℕ) (profile : Profile) where
  -- Definitions

  named_said : (line left right name : List ℕ) (append : Bool) → SpellsAssignment profile line left right → SpellsName left name append →
      IsStatement profile file number line (named_form file number name append right)
  unfolding named_form is_no_name defined_as
  named_said line left right name append h spells =
      by_test (IsStatement profile file number line) (is_empty name || list_any is_blank name) _ _
      (λ e. ((refl, refl), inr (inl (left, right, h, name, append, spells, e))))
      (λ e. let parts = or_false (is_empty name) (list_any is_blank name) e in (refl, refl, refl, (left, right, h, spells, parts.0, parts.1, trimmed_padded right)))

  signed_said : (line : List ℕ) (kind : DefinitionKind) (left right : List ℕ) → is_wide profile ≡ true → SpellsSign profile kind line left right →
      IsStatement profile file number line (kind_form file number kind (trimmed left) right)
  unfolding kind_form is_no_name defined_as
  signed_said line kind left right wide spells =
      let name = trimmed left in
      by_test (IsStatement profile file number line) (is_empty name || list_any is_blank name) _ _
      (λ e. ((refl, refl), inr (inr (inl (wide, kind, left, right, spells, name, trimmed_padded left, e)))))
      (λ e. inr (wide, refl, refl, (left, right, spells, trimmed_padded left, or_false (is_empty name) (list_any is_blank name) e, refl, refl, trimmed_padded right)))

  optional_said : (line left right : List ℕ) → IsCut profile 61 line left right → begins_with 63 (reverse left) ≡ true →
      IsStatement profile file number line (optional_form profile file number (without_last left) right)
  unfolding optional_form
  optional_said line left right cut mark =
      let front = without_last left in
      let is : left ≡ front ++ 63 ∷ [] = ends_at 63 left (reverse left) refl mark in
      let spells : SpellsSign profile IfUndefined line front right = subst (λ xs. IsCut profile 61 line xs right) is cut in
      either _ (is_wide profile)
      (λ wide. subst (IsStatement profile file number line) (ap (λ t. cond (not t) (Err (refusal file number (cause.Unsupported feature.OptionalDefinition))) (kind_form file number IfUndefined (trimmed front) right)) (sym wide))
      (signed_said line IfUndefined front right wide spells))
      (λ strict. subst (IsStatement profile file number line) (ap (λ t. cond (not t) (Err (refusal file number (cause.Unsupported feature.OptionalDefinition))) (kind_form file number IfUndefined (trimmed front) right)) (sym strict))
      ((refl, refl), (strict, front, right, spells)))

  assigned_said : (line left right : List ℕ) → SpellsAssignment profile line left right → IsStatement profile file number line (assigned_form file number left right)
  unfolding assigned_form ends_with
  assigned_said line left right h =
      by_test (IsStatement profile file number line) (begins_with 43 (reverse left)) _ _
      (λ t. named_said line left right (trimmed (without_last left)) true h (without_last left, ends_at 43 left (reverse left) refl t, trimmed_padded (without_last left)))
      (λ t. named_said line left right (trimmed left) false h (t, trimmed_padded left))

  output_said : (line left right : List ℕ) → IsCut profile 61 line left right → (is_wide profile ≡ true) × (begins_with 33 (reverse left) ≡ true) →
      IsStatement profile file number line (kind_form file number Output (trimmed (without_last left)) right)
  output_said line left right cut (wide, mark) =
      let is : left ≡ without_last left ++ 33 ∷ [] = ends_at 33 left (reverse left) refl mark in
      signed_said line Output (without_last left) right wide (subst (λ xs. IsCut profile 61 line xs right) is cut)

  definition_said : (line left right : List ℕ) → IsCut profile 61 line left right →
      IsStatement profile file number line (definition_form profile file number left right)
  unfolding definition_form ends_with
  definition_said line left right cut =
      by_test (IsStatement profile file number line) (begins_with 63 (reverse left)) _ _
      (λ t. optional_said line left right cut t)
      (λ f. by_test (IsStatement profile file number line) (is_wide profile && begins_with 33 (reverse left)) _ _
      (λ t. output_said line left right cut (both (is_wide profile) (begins_with 33 (reverse left)) t))
      (λ g. assigned_said line left right (cut, f, g)))

  -- Rules

  end_said : (right : List ℕ) (o : Option ℕ) → Said 59 59 refl o right → (recipe : Option (List ℕ)) × SpellsEnd right (prerequisites_of right o) recipe × (recipe_of number right o ≡ first_line number recipe)
  unfolding prerequisites_of recipe_of
  end_said right None s = (None, (s, trimmed_padded right), refl)
  end_said right (Some n) (before, b, rest, e, whole, is_one, long) =
      let same : b ≡ 59 = one_of 59 b is_one in
      let at : right ≡ before ++ 59 ∷ rest = e ∙ ap (λ c. before ++ c ∷ rest) same in
      let left : take n right ≡ before = cut_left right before b rest n e long in (
        Some rest,
        (before, at, whole, subst (λ xs. Padded xs (trimmed (take n right))) left (trimmed_padded (take n right))),
        ap (λ xs. first_line number (Some xs)) (cut_right right before b rest n e long),
      )

  respelled : (double : Bool) (line targets prerequisites : List ℕ) (recipe : Option (List ℕ)) (rule : Rule) → rule.is_double ≡ double → rule.targets ≡ targets →
      rule.prerequisites ≡ prerequisites → SpellsRule profile double line targets prerequisites recipe →
      SpellsRule profile rule.is_double line rule.targets rule.prerequisites recipe
  respelled double line targets prerequisites recipe rule d t p spells =
      subst (λ b. SpellsRule profile b line rule.targets rule.prerequisites recipe) (sym d)
      (subst (λ xs. SpellsRule profile double line xs rule.prerequisites recipe) (sym t)
      (subst (λ xs. SpellsRule profile double line targets xs recipe) (sym p) spells))

  judged_said : (double : Bool) (line targets prerequisites : List ℕ) (recipe : Option (List ℕ)) (special : Option SpecialName) (rule : Rule) →
      rule.file ≡ file → rule.line ≡ number → rule.is_double ≡ double → rule.targets ≡ targets → rule.prerequisites ≡ prerequisites → rule.recipe ≡ first_line number recipe →
      SpellsRule profile double line targets prerequisites recipe → HasSpecial profile targets special → IsStatement profile file number line (judged_form profile special rule)
  unfolding judged_form
  judged_said double line targets prerequisites recipe None rule f n d t p r spells has = (
    f,
    n,
    recipe,
    r,
    respelled double line targets prerequisites recipe rule d t p spells,
    subst (λ xs. HasSpecial profile xs None) (sym t) has,
    refl,
  )
  judged_said double line targets prerequisites recipe (Some name) rule f n d t p r spells has =
      by_test (IsStatement profile file number line) (is_refused_with profile rule.prerequisites (Some name)) _ _
      (λ e. ((f, n), (double, targets, prerequisites, recipe, spells, has, ap (λ xs. is_refused_with profile xs (Some name)) (sym p) ∙ e)))
      (λ e. (
        f,
        n,
        recipe,
        r,
        respelled double line targets prerequisites recipe rule d t p spells,
        subst (λ xs. HasSpecial profile xs (Some name)) (sym t) has,
        e,
      ))

  rule_said : (double : Bool) (line left right : List ℕ) → SpellsRuleSign profile double line left right →
      IsStatement profile file number line (rule_form profile file number double (trimmed left) right)
  unfolding rule_form
  rule_said double line left right sign =
      let end = end_said right (first_outside 59 59 Outside right) (said 59 59 refl right) in
      by_test (IsStatement profile file number line) (is_empty (trimmed left)) _ _
      (λ e. ((refl, refl), inr (inr (inr (double, left, right, sign, core_blank left (subst (Padded left) (empty_is (trimmed left) e) (trimmed_padded left)))))))
      (λ e. judged_said double line (trimmed left) (prerequisites_of right (first_outside 59 59 Outside right)) end.0 (special_name profile (first_word (trimmed left))) _
      refl refl refl refl refl end.2 (left, right, sign, trimmed_padded left, e, end.1) (has_special profile (trimmed left) (special_name profile (first_word (trimmed left))) refl))

  double_said : (line left right : List ℕ) → SpellsColon profile line left (58 ∷ right) → IsStatement profile file number line (double_form profile file number left right)
  unfolding double_form
  double_said line left right h =
      let next = begins_with 58 right && begins_with 61 (drop 1 right) in
      by_test (IsStatement profile file number line) (not (is_wide profile)) _ _
      (λ t. ((refl, refl), (left, right, h, not_true (is_wide profile) t)))
      (λ f. by_test (IsStatement profile file number line) (begins_with 61 right) _ _
      (λ t. signed_said line AtOnce left (drop 1 right) (not_false (is_wide profile) f) (inl (h.0 ∙ ap (λ xs. left ++ 58 ∷ 58 ∷ xs) (cut_first 61 right t), h.1, h.2, h.3, h.4)))
      (λ g. by_test (IsStatement profile file number line) next _ _
      (λ t.
      let more = and_true (begins_with 58 right) (begins_with 61 (drop 1 right)) t in
      let at : right ≡ 58 ∷ 61 ∷ drop 1 (drop 1 right) = cut_first 58 right more.0 ∙ ap (λ xs. 58 ∷ xs) (cut_first 61 (drop 1 right) more.1) in
      signed_said line AtOnceAlone left (drop 1 (drop 1 right)) (not_false (is_wide profile) f) (h.0 ∙ ap (λ xs. left ++ 58 ∷ 58 ∷ xs) at, h.1, h.2, h.3, h.4))
      (λ k. rule_said true line left right (h, not_false (is_wide profile) f, ap (λ t. t || next) g ∙ k))))

  set_said : (line left right : List ℕ) → SpellsColon profile line left (61 ∷ right) → IsStatement profile file number line (set_form profile file number left right)
  unfolding set_form is_no_name
  set_said line left right h =
      by_test (IsStatement profile file number line) (is_unset profile left right) _ _
      (λ t. ((refl, refl), (left, right, h, (λ wide set. absurd (cc (set_taken profile left right wide set, t))))))
      (λ f. let parts = set_parts profile left right f in signed_said line AtOnce left right parts.0 (inr (h, parts.1)))

  colon_said : (line left right : List ℕ) → SpellsColon profile line left right → IsStatement profile file number line (colon_form profile file number left right)
  unfolding colon_form
  colon_said line left right h =
      by_test (IsStatement profile file number line) (begins_with 58 right) _ _
      (λ t. double_said line left (drop 1 right) (h.0 ∙ ap (λ xs. left ++ 58 ∷ xs) (cut_first 58 right t), h.1, h.2, h.3, h.4))
      (λ f. by_test (IsStatement profile file number line) (begins_with 61 right) _ _
      (λ t. set_said line left (drop 1 right) (h.0 ∙ ap (λ xs. left ++ 58 ∷ xs) (cut_first 61 right t), h.1, h.2, h.3, h.4))
      (λ g. by_test (IsStatement profile file number line) (begins_shell_definition right) _ _
      (λ t. ((refl, refl), (left, right, h, shell_said right t)))
      (λ k. rule_said false line left right (h, (f, g, (λ s. absurd (cc (shell_back right s, k))))))))

  -- Statements

  unsigned_said : (line : List ℕ) → HasNone profile line → IsStatement profile file number line (unsigned_form profile file number line)
  unfolding unsigned_form
  unsigned_said line without =
      by_test (IsStatement profile file number line) (not (is_wide profile && begins_with 36 line)) _ _
      (λ t. ((refl, refl), inl (without, not_true (is_wide profile && begins_with 36 line) t)))
      (λ f. inl ((without, not_false (is_wide profile && begins_with 36 line) f), refl))

  pub decided_said : (line : List ℕ) (o : Option ℕ) → Said 61 58 refl o (signs_in profile line) → IsStatement profile file number line (decided_form profile file number line o)
  unfolding decided_form
  decided_said line None s = unsigned_said line s
  decided_said line (Some n) (before, b, behind, seen, whole, is_one, count) =
      let (left, right, e, same) = cut_seen profile line before b behind is_one seen in
      let long : length left ≡ n = sym same ∙ count in
      let cut : IsCut profile b line left right = (e, before, behind, (seen, whole), same) in
      let form_at : List ℕ → List ℕ → ℕ → Told = λ xs ys c. cond (c == 61) (definition_form profile file number xs ys) (colon_form profile file number xs ys) in
      let at : form_at left right b ≡ form_at (take n line) (drop (n + 1) line) (slice_index line n) =
      sym (ap (λ xs. form_at xs (drop (n + 1) line) (slice_index line n)) (cut_left line left b right n e long)
      ∙ ap (λ ys. form_at left ys (slice_index line n)) (cut_right line left b right n e long)
      ∙ ap (form_at left right) (cut_byte line left b right n e long)) in
      subst (IsStatement profile file number line) at
      (by_test (IsStatement profile file number line) (b == 61) _ _
      (λ t. definition_said line left right (subst (λ c. IsCut profile c line left right) ((Decides-eqb b 61).0 t) cut))
      (λ f. colon_said line left right (subst (λ c. IsCut profile c line left right) ((Decides-eqb b 58).0 (ap (λ t. t || b == 58) (sym f) ∙ is_one)) cut)))
