-- A statement that is spelled so has that form.
use Rattle.std.proofs.Common.{◌≡◌, ℕ, ◌+◌, ◌-◌, Bool, true, false, cond, not, ◌&&◌, ◌||◌, ◌==◌, List, [], ◌∷◌, ◌++◌, length, drop, reverse, refl, sym, ap, ◌∙◌, inl, inr, arith, append-nil, length-append, Option, Some, None, Ok, Err, slice_index, codes}
use Rattle.std.specs.List.{list_any}
use Rattle.std.proofs.lemmas.List.{reverse-append, take_at}
use Rattle.byte_strings.specs.Blanks.{is_blank, trimmed, first_word}
use Rattle.mk_profile.specs.Profile.{is_wide}
use Rattle.mk_profile.specs.declared.profile.Profile.{Profile}
use Rattle.mk_lines.specs.Text.{begins_with, ends_with, without_last}
use Rattle.mk_reader.specs.Special.{special_name}
use Rattle.mk_reader.specs.Spelled.{IsCut, SpellsName, SpellsAssignment, SpellsDefinition, SpellsSign, SpellsKind, IsUnsigned, SpellsColon, IsRuleEnd, SpellsRuleSign, SpellsEnd, SpellsRule, HasSpecial, is_refused_with}
use Rattle.mk_reader.specs.Grammar.{IsRefused, refusal, first_line, IsStatement}
use Rattle.mk_lines.specs.Quoted.{signs_in}
use Rattle.mk_lines.specs.References.{first_outside}
use Rattle.mk_reader.specs.Form.{defined_as, is_no_name, named_form, kind_form, optional_form, assigned_form, definition_form, prerequisites_of, recipe_of, judged_form, rule_form, begins_shell_definition, double_form, set_form, colon_form, unsigned_form, decided_form}
use Rattle.mk_reader.specs.declared.special.SpecialName.{SpecialName}
use Rattle.mk_reader.specs.declared.item.Definition.{Definition}
use Rattle.mk_reader.specs.declared.item.DefinitionKind.{DefinitionKind}
use Rattle.mk_reader.specs.declared.item.DefinitionKind.TheVariants.{IfUndefined, AtOnce, AtOnceAlone, Output, NoSign}
use Rattle.mk_reader.specs.declared.item.DefinitionLine.{DefinitionLine}
use Rattle.mk_reader.specs.declared.item.RecipeLine.{RecipeLine}
use Rattle.mk_reader.specs.declared.item.Rule.{Rule}
use Rattle.mk_reader.specs.declared.fault.Feature.TheVariants as feature
use Rattle.mk_reader.specs.declared.fault.Cause.{Cause}
use Rattle.mk_reader.specs.declared.fault.Cause.TheVariants as cause
use Rattle.mk_reader.specs.declared.fault.Refusal.{Refusal}
use Rattle.mk_lines.specs.declared.reference.Place.TheVariants.{Outside}
use Rattle.mk_reader.specs.declared.form.UnfinishedRule.{UnfinishedRule}
use Rattle.mk_reader.specs.declared.form.Form.TheVariants as form
use Rattle.mk_lines.proofs.ReferenceLemmas.{either, or_false, cut_found, none_found}
use Rattle.mk_reader.proofs.BlankLemmas.{trimmed_is}
use Rattle.mk_reader.proofs.TestLemmas.{Told}
use Rattle.mk_lines.proofs.CutLemmas.{cut_left, cut_right, cut_byte}
use Rattle.mk_reader.proofs.WordLemmas.{special_is}
use Rattle.mk_reader.proofs.ConditionalLemmas.{is_unset, set_parts, set_taken}
use Rattle.mk_reader.proofs.SaidLemmas.{shell_said, shell_back}

module _ (file : List ℕ) (number : ℕ) (profile : Profile) where
  at_cut : (line left : List ℕ) (c : ℕ) (right : List ℕ) → IsCut profile c line left right → (c == 61 || c == 58) ≡ true →
      decided_form profile file number line (first_outside 61 58 Outside (signs_in profile line)) ≡ cond (c == 61) (definition_form profile file number left right) (colon_form profile file number left right)
  unfolding decided_form
  at_cut line left c right (e, before, behind, (seen, whole), long) is_one =
      let form_at : List ℕ → List ℕ → ℕ → Told = λ xs ys d. cond (d == 61) (definition_form profile file number xs ys) (colon_form profile file number xs ys) in
      ap (decided_form profile file number line) (cut_found 61 58 refl (signs_in profile line) before c behind seen whole is_one ∙ ap Some long)
      ∙ ap (λ xs. form_at xs (drop (length left + 1) line) (slice_index line (length left))) (cut_left line left c right (length left) e refl)
      ∙ ap (λ ys. form_at left ys (slice_index line (length left))) (cut_right line left c right (length left) e refl)
      ∙ ap (form_at left right) (cut_byte line left c right (length left) e refl)

  assigned_is : (left right name : List ℕ) (append : Bool) → SpellsName left name append → assigned_form file number left right ≡ named_form file number name append right
  unfolding assigned_form ends_with
  assigned_is left right name true (rest, e, padded) =
      let plus : begins_with 43 (reverse left) ≡ true = ap (λ xs. begins_with 43 (reverse xs)) e ∙ ap (begins_with 43) (reverse-append rest (43 ∷ [])) in
      let front : without_last left ≡ rest = ap without_last e ∙ take_at rest (43 ∷ []) (length (rest ++ 43 ∷ []) - 1) (omega (arith, length-append rest (43 ∷ []))) in
      ap (λ t. cond t (named_form file number (trimmed (without_last left)) true right) (named_form file number (trimmed left) false right)) plus
      ∙ ap (λ xs. named_form file number (trimmed xs) true right) front
      ∙ ap (λ xs. named_form file number xs true right) (trimmed_is rest name padded)
  assigned_is left right name false (plus, padded) =
      ap (λ t. cond t (named_form file number (trimmed (without_last left)) true right) (named_form file number (trimmed left) false right)) plus
      ∙ ap (λ xs. named_form file number xs false right) (trimmed_is left name padded)

  -- what stands around a `=`, where `?` and `!` do or don't stand before it
  abbrev at_equals : (optional output : Bool) (left right : List ℕ) → Told
  at_equals optional output left right =
      cond optional (optional_form profile file number (without_last left) right) (cond output (kind_form file number Output (trimmed (without_last left)) right) (assigned_form file number left right))

  definition_is : (left right name : List ℕ) (append : Bool) → begins_with 63 (reverse left) ≡ false → (is_wide profile && begins_with 33 (reverse left)) ≡ false → SpellsName left name append →
      definition_form profile file number left right ≡ named_form file number name append right
  unfolding definition_form ends_with
  definition_is left right name append mark other spells =
      ap (λ t. at_equals t (is_wide profile && begins_with 33 (reverse left)) left right) mark
      ∙ ap (λ t. at_equals false t left right) other ∙ assigned_is left right name append spells

  assigned : (line left right : List ℕ) → SpellsAssignment profile line left right → decided_form profile file number line (first_outside 61 58 Outside (signs_in profile line)) ≡ definition_form profile file number left right
  assigned line left right (cut, mark, other) = at_cut line left 61 right cut refl

  defined_back : (line : List ℕ) (d : Definition) → d.file ≡ file → d.line ≡ number → d.is_fixed ≡ false → SpellsDefinition profile line d.name d.append d.value →
      decided_form profile file number line (first_outside 61 58 Outside (signs_in profile line)) ≡ Ok (form.Definition d)
  unfolding named_form is_no_name defined_as
  defined_back line d f n x (left, right, h, spells, some, one, padded) =
      assigned line left right h
      ∙ definition_is left right d.name d.append h.1 h.2 spells
      ∙ ap (λ t. cond (t || list_any is_blank d.name) (Err (refusal file number cause.MissingSeparator)) (made file number (trimmed right) false)) some
      ∙ ap (λ t. cond t (Err (refusal file number cause.MissingSeparator)) (made file number (trimmed right) false)) one
      ∙ ap (λ v. made file number v false) (trimmed_is right d.value padded)
      ∙ ap (λ y. made y number d.value false) (sym f) ∙ ap (λ y. made d.file y d.value false) (sym n) ∙ ap (made d.file d.line d.value) (sym x)
    where
      made : List ℕ → ℕ → List ℕ → Bool → Told
      made y k v b = Ok (form.Definition (record { file = y; line = k; name = d.name; append = d.append; value = v; is_fixed = b }))

  optional_cut : (line left right : List ℕ) → SpellsSign profile IfUndefined line left right → decided_form profile file number line (first_outside 61 58 Outside (signs_in profile line)) ≡ optional_form profile file number left right
  unfolding definition_form ends_with
  optional_cut line left right cut =
      let signed = left ++ 63 ∷ [] in
      let mark : begins_with 63 (reverse signed) ≡ true = ap (begins_with 63) (reverse-append left (63 ∷ [])) in
      let front : without_last signed ≡ left = take_at left (63 ∷ []) (length signed - 1) (omega (arith, length-append left (63 ∷ []))) in
      at_cut line signed 61 right cut refl
      ∙ ap (λ t. at_equals t (is_wide profile && begins_with 33 (reverse signed)) signed right) mark
      ∙ ap (λ xs. optional_form profile file number xs right) front

  output_cut : (line left right : List ℕ) → is_wide profile ≡ true → IsCut profile 61 line (left ++ 33 ∷ []) right →
      decided_form profile file number line (first_outside 61 58 Outside (signs_in profile line)) ≡ kind_form file number Output (trimmed left) right
  unfolding definition_form ends_with
  output_cut line left right wide cut =
      let signed = left ++ 33 ∷ [] in
      let mark : begins_with 63 (reverse signed) ≡ false = ap (begins_with 63) (reverse-append left (33 ∷ [])) in
      let output : (is_wide profile && begins_with 33 (reverse signed)) ≡ true =
      ap (λ t. t && begins_with 33 (reverse signed)) wide ∙ ap (begins_with 33) (reverse-append left (33 ∷ [])) in
      let front : without_last signed ≡ left = take_at left (33 ∷ []) (length signed - 1) (omega (arith, length-append left (33 ∷ []))) in
      at_cut line signed 61 right cut refl
      ∙ ap (λ t. at_equals t (is_wide profile && begins_with 33 (reverse signed)) signed right) mark
      ∙ ap (λ t. at_equals false t signed right) output
      ∙ ap (λ xs. kind_form file number Output (trimmed xs) right) front

  colon_is : (left right : List ℕ) → IsRuleEnd right → colon_form profile file number left right ≡ rule_form profile file number false (trimmed left) right
  unfolding colon_form
  colon_is left right (one, two, three) =
      ap (λ t. cond t (double_form profile file number left (drop 1 right)) (cond (begins_with 61 right) (set_form profile file number left (drop 1 right)) (cond (begins_shell_definition right) (Err (refusal file number (cause.Unsupported feature.ShellDefinition))) (rule_form profile file number false (trimmed left) right)))) one
      ∙ ap (λ t. cond t (set_form profile file number left (drop 1 right)) (cond (begins_shell_definition right) (Err (refusal file number (cause.Unsupported feature.ShellDefinition))) (rule_form profile file number false (trimmed left) right))) two
      ∙ ap (λ t. cond t (Err (refusal file number (cause.Unsupported feature.ShellDefinition))) (rule_form profile file number false (trimmed left) right)) (no_shell (begins_shell_definition right) refl)
    where
      no_shell : (t : Bool) → begins_shell_definition right ≡ t → begins_shell_definition right ≡ false
      no_shell true e = absurd (three (shell_said right e))
      no_shell false e = e

  colon_back : (line left right : List ℕ) → SpellsColon profile line left right → decided_form profile file number line (first_outside 61 58 Outside (signs_in profile line)) ≡ colon_form profile file number left right
  colon_back line left right cut = at_cut line left 58 right cut refl

  -- what `::` gives, where the profile is or isn't wide, and this stands behind it
  abbrev at_sign : (at_once alone : Bool) (left right : List ℕ) → Told
  at_sign at_once alone left right =
      cond at_once (kind_form file number AtOnce (trimmed left) (drop 1 right))
      (cond alone (kind_form file number AtOnceAlone (trimmed left) (drop 1 (drop 1 right))) (rule_form profile file number true (trimmed left) right))

  abbrev at_double : (wide : Bool) (left right : List ℕ) → Told
  at_double wide left right =
      cond (not wide) (Err (refusal file number (cause.Unsupported feature.DoubleColon)))
      (at_sign (begins_with 61 right) (begins_with 58 right && begins_with 61 (drop 1 right)) left right)

  -- what `:=` gives, where it is or isn't refused
  abbrev at_set : (unset : Bool) (left right : List ℕ) → Told
  at_set unset left right = cond unset (Err (refusal file number (cause.Unsupported feature.ColonDefinition))) (kind_form file number AtOnce (trimmed left) right)

  rule_sign_back : (double : Bool) (line left right : List ℕ) → SpellsRuleSign profile double line left right →
      decided_form profile file number line (first_outside 61 58 Outside (signs_in profile line)) ≡ rule_form profile file number double (trimmed left) right
  unfolding colon_form double_form
  rule_sign_back false line left right (colon, ends) = colon_back line left right colon ∙ colon_is left right ends
  rule_sign_back true line left right (colon, wide, ends) =
      let next = begins_with 58 right && begins_with 61 (drop 1 right) in
      let none = or_false (begins_with 61 right) next ends in
      colon_back line left (58 ∷ right) colon ∙ ap (λ w. at_double w left right) wide
      ∙ ap (λ t. at_sign t next left right) none.0 ∙ ap (λ t. at_sign false t left right) none.1

  sign_cut : (kind : DefinitionKind) (line left right : List ℕ) → is_wide profile ≡ true → SpellsSign profile kind line left right →
      decided_form profile file number line (first_outside 61 58 Outside (signs_in profile line)) ≡ kind_form file number kind (trimmed left) right
  unfolding optional_form colon_form double_form set_form is_no_name
  sign_cut IfUndefined line left right wide spells =
      optional_cut line left right spells
      ∙ ap (λ t. cond (not t) (Err (refusal file number (cause.Unsupported feature.OptionalDefinition))) (kind_form file number IfUndefined (trimmed left) right)) wide
  sign_cut AtOnce line left right wide (inl colon) = colon_back line left (58 ∷ 61 ∷ right) colon ∙ ap (λ w. at_double w left (61 ∷ right)) wide
  sign_cut AtOnce line left right wide (inr (colon, set)) =
      colon_back line left (61 ∷ right) colon ∙ ap (λ t. at_set t left right) (set_taken profile left right wide set)
  sign_cut Output line left right wide cut = output_cut line left right wide cut
  sign_cut NoSign line left right wide spells = absurd spells
  sign_cut AtOnceAlone line left right wide colon = colon_back line left (58 ∷ 58 ∷ 61 ∷ right) colon ∙ ap (λ w. at_double w left (58 ∷ 61 ∷ right)) wide

  signed_back : (line : List ℕ) (l : DefinitionLine) → is_wide profile ≡ true → l.definition.file ≡ file → l.definition.line ≡ number → SpellsKind profile line l.kind l.definition →
      decided_form profile file number line (first_outside 61 58 Outside (signs_in profile line)) ≡ Ok (form.DefinitionLine l)
  unfolding kind_form is_no_name defined_as
  signed_back line l wide f n (left, right, spells, padded, one, plain, loose, value) =
      sign_cut l.kind line left right wide spells
      ∙ ap (λ xs. kind_form file number l.kind xs right) (trimmed_is left l.definition.name padded)
      ∙ ap (λ t. cond (t || list_any is_blank l.definition.name) (Err (refusal file number cause.MissingSeparator)) (made file number false (trimmed right) false)) one.0
      ∙ ap (λ t. cond t (Err (refusal file number cause.MissingSeparator)) (made file number false (trimmed right) false)) one.1
      ∙ ap (λ v. made file number false v false) (trimmed_is right l.definition.value value)
      ∙ ap (λ x. made x number false l.definition.value false) (sym f) ∙ ap (λ x. made l.definition.file x false l.definition.value false) (sym n)
      ∙ ap (λ b. made l.definition.file l.definition.line b l.definition.value false) (sym plain)
      ∙ ap (made l.definition.file l.definition.line l.definition.append l.definition.value) (sym loose)
    where
      made : List ℕ → ℕ → Bool → List ℕ → Bool → Told
      made x y b v c = Ok (form.DefinitionLine (record { kind = l.kind; definition = record { file = x; line = y; name = l.definition.name; append = b; value = v; is_fixed = c } }))

  end_back : (right prerequisites : List ℕ) (recipe : Option (List ℕ)) → SpellsEnd right prerequisites recipe →
      (prerequisites_of right (first_outside 59 59 Outside right) ≡ prerequisites) × (recipe_of number right (first_outside 59 59 Outside right) ≡ first_line number recipe)
  unfolding prerequisites_of recipe_of
  end_back right prerequisites None (without, padded) =
      let o = none_found 59 59 refl right without in
      (ap (prerequisites_of right) o ∙ trimmed_is right prerequisites padded, ap (recipe_of number right) o)
  end_back right prerequisites (Some text) (before, e, whole, padded) =
      let o = cut_found 59 59 refl right before 59 text e whole refl in (
        ap (prerequisites_of right) o ∙ ap trimmed (cut_left right before 59 text (length before) e refl) ∙ trimmed_is before prerequisites padded,
        ap (recipe_of number right) o ∙ ap (λ xs. first_line number (Some xs)) (cut_right right before 59 text (length before) e refl),
      )

  ruled : (double : Bool) (line targets prerequisites : List ℕ) (recipe : Option (List ℕ)) (o : Option SpecialName) →
      SpellsRule profile double line targets prerequisites recipe → HasSpecial profile targets o →
      decided_form profile file number line (first_outside 61 58 Outside (signs_in profile line))
      ≡ judged_form profile o (record { file = file; line = number; is_double = double; targets = targets; prerequisites = prerequisites; recipe = first_line number recipe })
  unfolding rule_form
  ruled double line targets prerequisites recipe o (left, right, sign, padded, some, end) has =
      let parts = end_back right prerequisites recipe end in
      let at = first_outside 59 59 Outside right in
      rule_sign_back double line left right sign
      ∙ ap (λ xs. rule_form profile file number double xs right) (trimmed_is left targets padded)
      ∙ ap (λ t. cond t (Err (refusal file number cause.MissingSeparator)) (judged_form profile (special_name profile (first_word targets)) (made targets (prerequisites_of right at) (recipe_of number right at)))) some
      ∙ ap (λ s. judged_form profile s (made targets (prerequisites_of right at) (recipe_of number right at))) (special_is profile targets o has)
      ∙ ap (λ p. judged_form profile o (made targets p (recipe_of number right at))) parts.0
      ∙ ap (λ r. judged_form profile o (made targets prerequisites r)) parts.1
    where
      made : List ℕ → List ℕ → List RecipeLine → Rule
      made xs p r = record { file = file; line = number; is_double = double; targets = xs; prerequisites = p; recipe = r }

  rule_taken : (o : Option SpecialName) (rule : Rule) → is_refused_with profile rule.prerequisites o ≡ false → judged_form profile o rule ≡ Ok (form.Rule (record { special = o; rule = rule }))
  unfolding judged_form
  rule_taken None rule e = refl
  rule_taken (Some name) rule e =
      ap (λ t. cond t (Err (refusal rule.file rule.line (cause.Unsupported (feature.SpecialName name)))) (Ok (form.Rule (record { special = Some name; rule = rule })))) e

  rule_back : (line : List ℕ) (u : UnfinishedRule) → IsStatement profile file number line (Ok (form.Rule u)) → decided_form profile file number line (first_outside 61 58 Outside (signs_in profile line)) ≡ Ok (form.Rule u)
  rule_back line u (f, n, recipe, r, spells, has, taken) =
      ruled u.rule.is_double line u.rule.targets u.rule.prerequisites recipe u.special spells has
      ∙ rule_taken u.special _ taken
      ∙ ap (λ x. made x number (first_line number recipe)) (sym f) ∙ ap (λ x. made u.rule.file x (first_line number recipe)) (sym n) ∙ ap (made u.rule.file u.rule.line) (sym r)
    where
      made : List ℕ → ℕ → List RecipeLine → Told
      made x y z = Ok (form.Rule (record { special = u.special; rule = record { file = x; line = y; is_double = u.rule.is_double; targets = u.rule.targets; prerequisites = u.rule.prerequisites; recipe = z } }))

  -- a line without a sign, which is told by what it comes to, or isn't
  abbrev at_no_sign : (is_told : Bool) (line : List ℕ) → Told
  at_no_sign is_told line =
      cond (not is_told) (Err (refusal file number cause.MissingSeparator))
      (Ok (form.DefinitionLine (record { kind = NoSign; definition = record { file = file; line = number; name = []; append = false; value = line; is_fixed = false } })))

  unsigned_back : (line : List ℕ) (l : DefinitionLine) → IsUnsigned profile file number line l → decided_form profile file number line (first_outside 61 58 Outside (signs_in profile line)) ≡ Ok (form.DefinitionLine l)
  unfolding decided_form unsigned_form
  unsigned_back line l ((without, is_told), e) =
      ap (decided_form profile file number line) (none_found 61 58 refl (signs_in profile line) without) ∙ ap (λ t. at_no_sign t line) is_told ∙ ap (λ x. Ok (form.DefinitionLine x)) (sym e)

  refused_back : (line : List ℕ) (why : Cause) → IsRefused profile line why → decided_form profile file number line (first_outside 61 58 Outside (signs_in profile line)) ≡ Err (refusal file number why)
  unfolding decided_form unsigned_form named_form is_no_name defined_as kind_form optional_form rule_form colon_form double_form set_form definition_form ends_with judged_form
  refused_back line cause.MissingSeparator (inl (without, none)) =
      ap (decided_form profile file number line) (none_found 61 58 refl (signs_in profile line) without) ∙ ap (λ t. at_no_sign t line) none
  refused_back line cause.MissingSeparator (inr (inl (left, right, h, name, append, spells, bad))) =
      assigned line left right h ∙ definition_is left right name append h.1 h.2 spells
      ∙ ap (λ t. cond t (Err (refusal file number cause.MissingSeparator)) (Ok (form.Definition (record { file = file; line = number; name = name; append = append; value = trimmed right; is_fixed = false })))) bad
  refused_back line cause.MissingSeparator (inr (inr (inl (wide, kind, left, right, spells, name, padded, bad)))) =
      sign_cut kind line left right wide spells ∙ ap (λ xs. kind_form file number kind xs right) (trimmed_is left name padded)
      ∙ ap (λ t. cond t (Err (refusal file number cause.MissingSeparator)) (Ok (form.DefinitionLine (record { kind = kind; definition = record { file = file; line = number; name = name; append = false; value = trimmed right; is_fixed = false } })))) bad
  refused_back line cause.MissingSeparator (inr (inr (inr (double, left, right, sign, blank)))) =
      rule_sign_back double line left right sign
      ∙ ap (λ xs. rule_form profile file number double xs right) (trimmed_is left [] (left, [], sym (append-nil left), blank, refl, refl, refl))
  refused_back line (cause.Unsupported feature.OptionalDefinition) (strict, left, right, spells) =
      optional_cut line left right spells
      ∙ ap (λ t. cond (not t) (Err (refusal file number (cause.Unsupported feature.OptionalDefinition))) (kind_form file number IfUndefined (trimmed left) right)) strict
  refused_back line (cause.Unsupported feature.DoubleColon) (left, right, colon, strict) =
      colon_back line left (58 ∷ right) colon ∙ ap (λ w. at_double w left right) strict
  refused_back line (cause.Unsupported feature.ColonDefinition) (left, right, colon, none) =
      colon_back line left (61 ∷ right) colon
      ∙ either _ (is_unset profile left right) (λ t. ap (λ u. at_set u left right) t) (λ f. let parts = set_parts profile left right f in absurd (none parts.0 parts.1))
  refused_back line (cause.Unsupported feature.ShellDefinition) (left, right, colon, (blanks, rest, e, blank)) =
      colon_back line left right colon ∙ ap (colon_form profile file number left) e
      ∙ ap (λ t. cond t (Err (refusal file number (cause.Unsupported feature.ShellDefinition))) (rule_form profile file number false (trimmed left) (codes "sh" ++ (blanks ++ 61 ∷ rest))))
      (shell_back (codes "sh" ++ (blanks ++ 61 ∷ rest)) (blanks, rest, refl, blank))
  refused_back line (cause.Unsupported (feature.SpecialName name)) (double, targets, prerequisites, recipe, spells, has, bad) =
      ruled double line targets prerequisites recipe (Some name) spells has
      ∙ ap (λ t. cond t (Err (refusal file number (cause.Unsupported (feature.SpecialName name)))) (Ok (form.Rule (record { special = Some name; rule = record { file = file; line = number; is_double = double; targets = targets; prerequisites = prerequisites; recipe = first_line number recipe } })))) bad
  refused_back line (cause.Unsupported feature.Include) h = absurd h
  refused_back line (cause.Unsupported (feature.Directive directive)) h = absurd h
  refused_back line (cause.Unsupported feature.TargetMacro) h = absurd h
  refused_back line (cause.Unsupported feature.QuotedPercent) h = absurd h
  refused_back line (cause.Unsupported feature.GroupedTargets) h = absurd h
  refused_back line (cause.Unsupported feature.ShellFlags) h = absurd h
  refused_back line (cause.Unsupported feature.SearchPath) h = absurd h
  refused_back line (cause.Unsupported feature.RecipePrefix) h = absurd h
  refused_back line (cause.Unsupported feature.IncludeWildcard) h = absurd h
  refused_back line cause.NotText h = absurd h
  refused_back line cause.BlanksInFront h = absurd h
  refused_back line cause.TabFirst h = absurd h
  refused_back line cause.IncludeDepth h = absurd h
  refused_back line (cause.IncludeMissing name) h = absurd h
  refused_back line (cause.IncludeUnmade name) h = absurd h
  refused_back line (cause.Macro why) h = absurd h
  refused_back line (cause.Static why) h = absurd h

  refusal_back : (r : Refusal) → r.file ≡ file → r.line ≡ number → (told : Told) → told ≡ Err (refusal file number r.cause) → told ≡ Err r
  refusal_back r f n told e = e ∙ ap (λ x. Err (refusal x number r.cause)) (sym f) ∙ ap (λ x. Err (refusal r.file x r.cause)) (sym n)

  pub statement_back : (line : List ℕ) (told : Told) → IsStatement profile file number line told → decided_form profile file number line (first_outside 61 58 Outside (signs_in profile line)) ≡ told
  statement_back line (Ok (form.Definition d)) h = defined_back line d h.0 h.1 h.2 h.3
  statement_back line (Ok (form.DefinitionLine l)) (inl h) = unsigned_back line l h
  statement_back line (Ok (form.DefinitionLine l)) (inr h) = signed_back line l h.0 h.1 h.2 h.3
  statement_back line (Ok (form.Rule u)) h = rule_back line u h
  statement_back line (Ok form.Blank) h = absurd h
  statement_back line (Ok (form.Recipe recipe)) h = absurd h
  statement_back line (Ok (form.Include include)) h = absurd h
  statement_back line (Err r) h = refusal_back r h.0.0 h.0.1 _ (refused_back line r.cause h.1)
