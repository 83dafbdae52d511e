-- The form of each line is what the grammar says, and nothing else is as the grammar says.
use Rattle.std.proofs.Common.{◌≡◌, ℕ, suc, ◌+◌, Bool, true, false, cond, not, ◌&&◌, ◌||◌, List, [], ◌∷◌, length, drop, refl, sym, ap, subst, ◌∙◌, inl, inr, arith, Option, Some, None, Ok, Err}
use Rattle.std.specs.List.{list_any, list_all, prefix_len}
use Rattle.byte_strings.specs.Blanks.{is_blank, trimmed_start, trimmed, first_word}
use Rattle.mk_profile.specs.Profile.{is_wide}
use Rattle.mk_profile.specs.declared.profile.Profile.{Profile}
use Rattle.mk_lines.specs.Text.{is_dollar, is_empty, is_text}
use Rattle.mk_reader.specs.Grammar.{refusal, is_bad_include, IsIncludeForm, IsLine, IsTextLine, IsRecipeLine, IsOfKind, IsForm}
use Rattle.mk_reader.specs.Blanks.{told_behind}
use Rattle.mk_reader.specs.Directive.{told_as}
use Rattle.mk_lines.specs.Quoted.{signs_in}
use Rattle.mk_reader.specs.Form.{include_kind, include_form, opened_form, decided_form, line_form, line_content, content_form, statement_form, recipe_form, form_of}
use Rattle.mk_lines.specs.References.{first_outside}
use Rattle.mk_reader.specs.declared.fault.Feature.TheVariants as feature
use Rattle.mk_reader.specs.declared.fault.Cause.TheVariants as cause
use Rattle.mk_lines.specs.declared.line.LogicalLine.{LogicalLine}
use Rattle.mk_lines.specs.declared.reference.Place.TheVariants.{Outside}
use Rattle.mk_reader.specs.declared.form.Form.TheVariants as form
use Rattle.mk_lines.proofs.ReferenceLemmas.{either, said}
use Rattle.mk_reader.proofs.BlankLemmas.{trimmed_is, trimmed_padded}
use Rattle.mk_reader.proofs.TestLemmas.{Told, by_test, empty_is}
use Rattle.mk_reader.proofs.ContentLemmas.{content_said, content_is}
use Rattle.mk_reader.proofs.WordLemmas.{opens_kind, kind_opens, include_some}
use Rattle.mk_reader.proofs.SaidLemmas.{decided_said}
use Rattle.mk_reader.proofs.SpelledLemmas.{statement_back}

blank_start : (names : List ℕ) → is_empty (trimmed_start names) ≡ list_all is_blank names
unfolding trimmed_start
blank_start [] = refl
blank_start (b ∷ bs) =
    let more : 1 + prefix_len is_blank bs ≡ suc (prefix_len is_blank bs) = omega arith in
    either _ (is_blank b)
    (λ e. ap (λ t. is_empty (drop (cond t (1 + prefix_len is_blank bs) 0) (b ∷ bs))) e ∙ ap (λ n. is_empty (drop n (b ∷ bs))) more
    ∙ blank_start bs ∙ ap (λ t. t && list_all is_blank bs) (sym e))
    (λ e. ap (λ t. is_empty (drop (cond t (1 + prefix_len is_blank bs) 0) (b ∷ bs))) e ∙ ap (λ t. t && list_all is_blank bs) (sym e))

module _ (file : List ℕ) (number : ℕ) (profile : Profile) where
  -- Include lines

  abbrev included : Bool → List ℕ → Told
  included required names =
      cond (is_bad_include profile names) (Err (refusal file number (cause.Unsupported feature.Include)))
      (Ok (form.Include (record { line = number; is_required = required; names = names })))

  include_is : (required : Bool) (names : List ℕ) → include_form profile file number required names ≡ included required names
  unfolding include_form
  include_is required names =
      ap (λ t. cond (not (is_wide profile) && (list_any is_dollar names || t)) (Err (refusal file number (cause.Unsupported feature.Include)))
      (Ok (form.Include (record { line = number; is_required = required; names = names })))) (blank_start names)

  include_said : (required : Bool) (names : List ℕ) → IsIncludeForm profile file number required names (include_form profile file number required names)
  include_said required names =
      subst (IsIncludeForm profile file number required names) (sym (include_is required names))
      (by_test (IsIncludeForm profile file number required names) (is_bad_include profile names) _ _ (λ bad. inr (bad, refl)) (λ good. inl (good, refl)))

  include_back : (required : Bool) (names : List ℕ) (told : Told) → IsIncludeForm profile file number required names told → include_form profile file number required names ≡ told
  include_back required names told (inl (good, e)) =
      include_is required names
      ∙ ap (λ t. cond t (Err (refusal file number (cause.Unsupported feature.Include))) (Ok (form.Include (record { line = number; is_required = required; names = names })))) good ∙ sym e
  include_back required names told (inr (bad, e)) =
      include_is required names
      ∙ ap (λ t. cond t (Err (refusal file number (cause.Unsupported feature.Include))) (Ok (form.Include (record { line = number; is_required = required; names = names })))) bad ∙ sym e

  -- Lines

  pub line_said : (line : List ℕ) → IsLine profile file number line (line_form profile file number line)
  unfolding line_form
  line_said line =
      by_test (IsLine profile file number line) (is_empty line) _ _
      (λ t. inl (empty_is line t, refl))
      (λ f. opened f (include_kind profile (first_word line)) refl)
    where
      opened : is_empty line ≡ false → (kind : Option Bool) → include_kind profile (first_word line) ≡ kind → IsLine profile file number line (opened_form profile file number line kind)
      opened f (Some required) e =
          let names = drop (length (first_word line)) line in
          inr (inl (required, names, kind_opens profile line required e, include_said required names))
      opened f None e = inr (inr (f, (λ required names h. absurd (cc ((opens_kind profile line required names h).0, e))), (decided_form profile file number line (first_outside 61 58 Outside (signs_in profile line)), decided_said file number profile line _ (said 61 58 refl (signs_in profile line)), refl)))

  pub line_back : (line : List ℕ) (told : Told) → IsLine profile file number line told → line_form profile file number line ≡ told
  unfolding line_form
  line_back line told (inl (e, is)) = ap (line_form profile file number) e ∙ sym is
  line_back line told (inr (inl (required, names, h, is))) =
      let found = opens_kind profile line required names h in
      ap (λ t. cond t (Ok form.Blank) (opened_form profile file number line (include_kind profile (first_word line)))) (include_some profile line required names h)
      ∙ ap (opened_form profile file number line) found.0
      ∙ ap (include_form profile file number required) found.1
      ∙ include_back required names told is
  line_back line told (inr (inr (some, none, (plain, h, is)))) =
      ap (λ t. cond t (Ok form.Blank) (opened_form profile file number line (include_kind profile (first_word line)))) some
      ∙ ap (opened_form profile file number line) (no_word (include_kind profile (first_word line)) refl)
      ∙ ap (told_as profile line) (statement_back file number profile line plain h) ∙ sym is
    where
      no_word : (kind : Option Bool) → include_kind profile (first_word line) ≡ kind → include_kind profile (first_word line) ≡ None
      no_word (Some required) e = absurd (none required (drop (length (first_word line)) line) (kind_opens profile line required e))
      no_word None e = e

  pub text_said : (text : List ℕ) → IsTextLine profile file number text (statement_form profile file number text)
  unfolding statement_form content_form
  text_said text =
      let content = line_content profile text in
      let has = content_said profile text in
      by_test (IsTextLine profile file number text) (is_text content) _ _
      (λ t. (content, has, inr (t, (trimmed content, trimmed_padded content, (line_form profile file number (trimmed content), line_said (trimmed content), refl)))))
      (λ f. (content, has, inl (f, refl)))

  pub text_back : (text : List ℕ) (told : Told) → IsTextLine profile file number text told → statement_form profile file number text ≡ told
  unfolding statement_form content_form
  text_back text told (content, has, inl (bad, e)) =
      ap (λ c. cond (is_text c) (told_behind profile c (line_form profile file number (trimmed c))) (Err (refusal file number cause.NotText))) (content_is profile text content has)
      ∙ ap (λ t. cond t (told_behind profile content (line_form profile file number (trimmed content))) (Err (refusal file number cause.NotText))) bad ∙ sym e
  text_back text told (content, has, inr (good, (line, padded, (plain, h, is)))) =
      ap (λ c. cond (is_text c) (told_behind profile c (line_form profile file number (trimmed c))) (Err (refusal file number cause.NotText))) (content_is profile text content has)
      ∙ ap (λ t. cond t (told_behind profile content (line_form profile file number (trimmed content))) (Err (refusal file number cause.NotText))) good
      ∙ ap (λ xs. told_behind profile content (line_form profile file number xs)) (trimmed_is content line padded)
      ∙ ap (told_behind profile content) (line_back line plain h) ∙ sym is

  recipe_said : (text : List ℕ) → IsRecipeLine file number text (recipe_form file number text)
  unfolding recipe_form
  recipe_said text =
      by_test (IsRecipeLine file number text) (is_text text) _ _
      (λ t. by_test (IsRecipeLine file number text) (is_empty (trimmed_start text)) _ _
      (λ e. inr (inl (t, sym (blank_start text) ∙ e, refl)))
      (λ e. inr (inr (t, sym (blank_start text) ∙ e, refl))))
      (λ f. inl (f, refl))

  recipe_back : (text : List ℕ) (told : Told) → IsRecipeLine file number text told → recipe_form file number text ≡ told
  unfolding recipe_form
  recipe_back text told (inl (bad, e)) =
      ap (λ t. cond t (cond (is_empty (trimmed_start text)) (Ok form.Blank) (Ok (form.Recipe (record { text = text; line = number })))) (Err (refusal file number cause.NotText))) bad ∙ sym e
  recipe_back text told (inr (inl (good, blank, e))) =
      ap (λ t. cond t (cond (is_empty (trimmed_start text)) (Ok form.Blank) (Ok (form.Recipe (record { text = text; line = number })))) (Err (refusal file number cause.NotText))) good
      ∙ ap (λ t. cond t (Ok form.Blank) (Ok (form.Recipe (record { text = text; line = number })))) (blank_start text ∙ blank) ∙ sym e
  recipe_back text told (inr (inr (good, some, e))) =
      ap (λ t. cond t (cond (is_empty (trimmed_start text)) (Ok form.Blank) (Ok (form.Recipe (record { text = text; line = number })))) (Err (refusal file number cause.NotText))) good
      ∙ ap (λ t. cond t (Ok form.Blank) (Ok (form.Recipe (record { text = text; line = number })))) (blank_start text ∙ some) ∙ sym e

  kind_said : (k : Bool) (text : List ℕ) → IsOfKind profile k file number text (cond k (recipe_form file number text) (statement_form profile file number text))
  kind_said true text = recipe_said text
  kind_said false text = text_said text

  kind_back : (k : Bool) (text : List ℕ) (told : Told) → IsOfKind profile k file number text told → cond k (recipe_form file number text) (statement_form profile file number text) ≡ told
  kind_back true text told h = recipe_back text told h
  kind_back false text told h = text_back text told h

-- each line has the form that the grammar gives it
pub form_said : (profile : Profile) (file : List ℕ) (line : LogicalLine) → IsForm profile file line (form_of profile file line)
unfolding form_of
form_said profile file line = kind_said file line.number profile line.is_recipe line.text

-- and no other
pub form_back : (profile : Profile) (file : List ℕ) (line : LogicalLine) (told : Told) → IsForm profile file line told → form_of profile file line ≡ told
unfolding form_of
form_back profile file line told h = kind_back file line.number profile line.is_recipe line.text told h
