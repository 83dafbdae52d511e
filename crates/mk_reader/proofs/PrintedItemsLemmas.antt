-- A makefile that is printed from plain items is read back as these.
use Rattle.std.proofs.Common.{◌≡◌, ℕ, ◌+◌, ◌%◌, Bool, true, false, cond, ◌&&◌, ◌==◌, List, [], ◌∷◌, ◌++◌, drop, map, reverse, flat_map, refl, sym, ap, subst, ◌∙◌, inl, inr, Some, Ok}
use Rattle.std.specs.List.{prefix_len, onto_first}
use Rattle.std.proofs.lemmas.Str.{is_utf8-from_IsUtf8, IsUtf8-nil}
use Rattle.mk_profile.specs.Profile.{is_wide}
use Rattle.mk_profile.specs.declared.profile.Profile.{Profile}
use Rattle.mk_lines.specs.Text.{is_backslash, begins_with, without_last, is_text}
use Rattle.mk_lines.specs.Lines.{Physical, spelling, goes_on, body, opening, groups, logical_line, numbered, logical_lines}
use Rattle.mk_reader.specs.Spelled.{begins_blank}
use Rattle.mk_reader.specs.Comments.{HasContent}
use Rattle.mk_reader.specs.Grammar.{IsForm}
use Rattle.mk_lines.specs.Spelling.{ArePhysical}
use Rattle.mk_reader.specs.Printed.{line_of_text, definition_text, rule_sign, rule_text, definition_on, rule_on, sign, spaced, PlainItem, definition, rule, lines_of, printed, IsOwnLine, IsPlainRecipe, ArePlain, next, recipe_on, after_recipe, items_on}
use Rattle.mk_reader.specs.Statements.{RecipeBelow, LineStatements, AreStatements}
use Rattle.mk_reader.specs.declared.item.Statement.{Statement}
use Rattle.mk_reader.specs.declared.item.Statement.TheVariants as statement
use Rattle.mk_lines.specs.declared.line.Ending.TheVariants.{EndOfText, Newline}
use Rattle.mk_lines.specs.declared.line.LogicalLine.{LogicalLine}
use Rattle.mk_reader.specs.declared.form.Form.TheVariants as form
use Rattle.mk_lines.proofs.ReferenceLemmas.{or_false}
use Rattle.mk_lines.proofs.LinesLemmas.{logical_line-is}
use Rattle.mk_lines.proofs.SplitLemmas.{ended_before, last_ends, lines_are_back}
use Rattle.mk_reader.proofs.PrintedLemmas.{begins_more, no_blank_first, definition_read, rule_read}
use Rattle.mk_reader.proofs.StatementLemmas.{recipe_some, told_plainly}
use Rattle.mk_reader.proofs.ContentLemmas.{alone, content_said}

-- The physical lines of a printed text

abbrev newline_line : List ℕ → Physical
newline_line text = record { text = text; ending = Newline }

abbrev last_line : Physical
last_line = record { text = []; ending = EndOfText }

abbrev physical_of : List (List ℕ) → List Physical
physical_of [] = last_line ∷ []
physical_of (text ∷ more) = newline_line text ∷ physical_of more

abbrev AllOwn : List (List ℕ) → Type 0
AllOwn [] = Unit {0}
AllOwn (text ∷ more) = IsOwnLine text × AllOwn more

spelled_lines : (texts : List (List ℕ)) → flat_map (λ line. line ++ 10 ∷ []) texts ≡ flat_map spelling (physical_of texts)
spelled_lines [] = refl
spelled_lines (text ∷ more) = ap (λ xs. (text ++ 10 ∷ []) ++ xs) (spelled_lines more)

own_physical : (texts : List (List ℕ)) → AllOwn texts → ArePhysical (physical_of texts)
own_physical [] h = (refl, refl)
own_physical (text ∷ more) h = ended_before (newline_line text) (physical_of more) (h.0.0, h.0.1) (own_physical more h.1)

own_recipe : (recipe rest : List (List ℕ)) → IsPlainRecipe recipe → AllOwn rest → AllOwn (map (λ text. 9 ∷ text) recipe ++ rest)
own_recipe [] rest h own = own
own_recipe (text ∷ more) rest h own = (h.0, own_recipe more rest h.3 own)

own_lines : (profile : Profile) (items : List PlainItem) → ArePlain profile items → AllOwn (flat_map lines_of items)
own_lines profile [] h = tt
own_lines profile (definition name append value ∷ more) h = (h.0.3, own_lines profile more h.1)
own_lines profile (rule special double targets prerequisites recipe ∷ more) h = (h.0.5, own_recipe recipe (flat_map lines_of more) h.0.6 (own_lines profile more h.1))

-- One logical line each

no_backslash : (xs : List ℕ) → begins_with 92 xs ≡ false → prefix_len is_backslash xs ≡ 0
no_backslash [] h = refl
no_backslash (b ∷ bs) h = ap (λ t. cond t (1 + prefix_len is_backslash bs) 0) h

own_ends : (text : List ℕ) → IsOwnLine text → goes_on (newline_line text) ≡ false
unfolding goes_on
own_ends text h = ap (λ n. n % 2 == 1) (no_backslash (reverse text) h.2)

whole_body : (line : Physical) → goes_on line ≡ false → body line ≡ line.text
unfolding body
whole_body line e = ap (λ t. cond t (without_last line.text) line.text) e

plain_logical : (wide : Bool) (number : ℕ) (line : Physical) → goes_on line ≡ false → begins_with 9 line.text ≡ false → logical_line wide number (line ∷ []) ≡ line_of_text number line.text
unfolding opening
plain_logical wide number line ends tab =
    logical_line-is wide number false line.text line [] (sym tab) (sym (whole_body line ends))

abbrev recipe_line : ℕ → List ℕ → LogicalLine
recipe_line number text = record { number = number; is_recipe = true; text = text }

recipe_logical : (wide : Bool) (number : ℕ) (text : List ℕ) → IsOwnLine (9 ∷ text) → logical_line wide number (newline_line (9 ∷ text) ∷ []) ≡ recipe_line number text
unfolding opening
recipe_logical wide number text own =
    let line = newline_line (9 ∷ text) in
    logical_line-is wide number true text line [] refl (sym (ap (drop 1) (whole_body line (own_ends (9 ∷ text) own))))

-- the logical lines of the items, from this number on
abbrev with_recipe : ℕ → List (List ℕ) → (ℕ → List LogicalLine) → List LogicalLine
with_recipe number [] rest = rest number
with_recipe number (text ∷ more) rest = recipe_line number text ∷ with_recipe (next number) more rest

abbrev plain_lines : ℕ → List PlainItem → List LogicalLine
plain_lines number [] = line_of_text number [] ∷ []
plain_lines number (definition name append value ∷ more) = line_of_text number (definition_text name append value) ∷ plain_lines (next number) more
plain_lines number (rule special double targets prerequisites recipe ∷ more) =
    line_of_text number (rule_text double targets prerequisites) ∷ with_recipe (next number) recipe (λ n. plain_lines n more)

one_more : (wide : Bool) (number : ℕ) (p : Physical) (rest : List Physical) (line : LogicalLine) (lines : List LogicalLine) → goes_on p ≡ false → logical_line wide number (p ∷ []) ≡ line → numbered wide (next number) (groups rest) ≡ lines →
    numbered wide number (groups (p ∷ rest)) ≡ line ∷ lines
one_more wide number p rest line lines ends is e =
    ap (λ t. numbered wide number (cond t (onto_first p (groups rest)) ((p ∷ []) ∷ groups rest))) ends
    ∙ ap (λ (l : LogicalLine). l ∷ numbered wide (next number) (groups rest)) is ∙ ap (λ (ls : List LogicalLine). line ∷ ls) e

no_tab : (text : List ℕ) → begins_blank text ≡ false → begins_with 9 text ≡ false
no_tab [] h = refl
no_tab (b ∷ bs) h = (or_false (b == 32) (b == 9) h).1

plain_one : (wide : Bool) (number : ℕ) (text : List ℕ) (rest : List Physical) (lines : List LogicalLine) → IsOwnLine text → begins_blank text ≡ false → numbered wide (next number) (groups rest) ≡ lines →
    numbered wide number (groups (newline_line text ∷ rest)) ≡ line_of_text number text ∷ lines
plain_one wide number text rest lines own bare e =
    one_more wide number (newline_line text) rest (line_of_text number text) lines (own_ends text own) (plain_logical wide number (newline_line text) (own_ends text own) (no_tab text bare)) e

recipe_numbered : (wide : Bool) (number : ℕ) (recipe texts : List (List ℕ)) (rest : ℕ → List LogicalLine) → IsPlainRecipe recipe → numbered wide (after_recipe number recipe) (groups (physical_of texts)) ≡ rest (after_recipe number recipe) →
    numbered wide number (groups (physical_of (map (λ text. 9 ∷ text) recipe ++ texts))) ≡ with_recipe number recipe rest
recipe_numbered wide number [] texts rest h e = e
recipe_numbered wide number (text ∷ more) texts rest h e =
    one_more wide number (newline_line (9 ∷ text)) (physical_of (map (λ t. 9 ∷ t) more ++ texts)) (recipe_line number text) (with_recipe (next number) more rest)
    (own_ends (9 ∷ text) h.0) (recipe_logical wide number text h.0) (recipe_numbered wide (next number) more texts rest h.3 e)

items_numbered : (wide : Bool) (profile : Profile) (number : ℕ) (items : List PlainItem) → ArePlain profile items → numbered wide number (groups (physical_of (flat_map lines_of items))) ≡ plain_lines number items
items_numbered wide profile number [] h =
    one_more wide number last_line [] (line_of_text number []) [] (last_ends last_line refl) (plain_logical wide number last_line (last_ends last_line refl) refl) refl
items_numbered wide profile number (definition name append value ∷ more) h =
    plain_one wide number (definition_text name append value) (physical_of (flat_map lines_of more)) (plain_lines (next number) more) h.0.3
    (begins_more name (sign append ++ spaced value) h.0.0.0 (no_blank_first name h.0.0.1)) (items_numbered wide profile (next number) more h.1)
items_numbered wide profile number (rule special double targets prerequisites recipe ∷ more) h =
    plain_one wide number (rule_text double targets prerequisites) (physical_of (map (λ t. 9 ∷ t) recipe ++ flat_map lines_of more)) (with_recipe (next number) recipe (λ n. plain_lines n more)) h.0.5
    (begins_more targets (rule_sign double ++ spaced prerequisites) h.0.0.0 h.0.0.1.0)
    (recipe_numbered wide (next number) recipe (flat_map lines_of more) (λ n. plain_lines n more) h.0.6 (items_numbered wide profile (after_recipe (next number) recipe) more h.1))

pub printed_lines : (profile : Profile) (items : List PlainItem) → ArePlain profile items → logical_lines (is_wide profile) 1 (Some (printed items)) ≡ plain_lines 1 items
unfolding logical_lines
printed_lines profile items h =
    let texts = flat_map lines_of items in
    ap (λ ls. numbered (is_wide profile) 1 (groups ls)) (lines_are_back (printed items) (physical_of texts) (spelled_lines texts, own_physical texts (own_lines profile items h)))
    ∙ items_numbered (is_wide profile) profile 1 items h

-- What they give

empty_text : is_text [] ≡ true
unfolding is_text
empty_text = ap (λ t. t && true) (is_utf8-from_IsUtf8 [] IsUtf8-nil)

blank_read : (profile : Profile) (file : List ℕ) (number : ℕ) → IsForm profile file (line_of_text number []) (Ok form.Blank)
blank_read profile file number = ([], subst (HasContent profile []) (alone profile [] refl) (content_said profile []), inr (empty_text, ([], ([], [], refl, refl, refl, refl, refl), (Ok form.Blank, inl (refl, refl), refl))))

module _ (profile : Profile) (file : List ℕ) where
  none_below : (number : ℕ) (items : List PlainItem) → ArePlain profile items → RecipeBelow profile file (plain_lines number items) []
  none_below number [] h = (Ok form.Blank, blank_read profile file number, [], refl, refl)
  none_below number (definition name append value ∷ more) h =
      let rest = recipe_some profile file (plain_lines (next number) more) in
      (Ok (form.Definition (definition_on file number name append value)), definition_read profile file name value number append h.0.0 h.0.1 h.0.2, rest.0, rest.1, refl)
  none_below number (rule special double targets prerequisites recipe ∷ more) h =
      let rest = recipe_some profile file (with_recipe (next number) recipe (λ n. plain_lines n more)) in
      (Ok (form.Rule (rule_on file number special double targets prerequisites)), rule_read profile file targets prerequisites number special double h.0.0 h.0.1 h.0.2 h.0.3 h.0.4 h.0.7, rest.0, rest.1, refl)

  recipe_below : (number : ℕ) (recipe : List (List ℕ)) (rest : ℕ → List LogicalLine) → IsPlainRecipe recipe → RecipeBelow profile file (rest (after_recipe number recipe)) [] → RecipeBelow profile file (with_recipe number recipe rest) (recipe_on number recipe)
  recipe_below number [] rest h none = none
  recipe_below number (text ∷ more) rest h none =
      (Ok (form.Recipe (record { text = text; line = number })), inr (inr (h.1, h.2, refl)), recipe_on (next number) more, recipe_below (next number) more rest h.3 none, refl)

  recipe_read : (number : ℕ) (recipe : List (List ℕ)) (rest : ℕ → List LogicalLine) (said : List Statement) → IsPlainRecipe recipe → LineStatements profile file true (rest (after_recipe number recipe)) said →
      LineStatements profile file true (with_recipe number recipe rest) said
  recipe_read number [] rest said h read = read
  recipe_read number (text ∷ more) rest said h read =
      let below = recipe_some profile file (with_recipe (next number) more rest) in
      (Ok (form.Recipe (record { text = text; line = number })), inr (inr (h.1, h.2, refl)), below.0, below.1, recipe_read (next number) more rest said h.3 read)

  items_read : (number : ℕ) (items : List PlainItem) (above : Bool) → ArePlain profile items → LineStatements profile file above (plain_lines number items) (map statement.Item (items_on file number items))
  items_read number [] above h = (Ok form.Blank, told_plainly profile file above (line_of_text number []) (Ok form.Blank) refl (blank_read profile file number), [], refl, refl)
  items_read number (definition name append value ∷ more) above h =
      let below = recipe_some profile file (plain_lines (next number) more) in (
        Ok (form.Definition (definition_on file number name append value)),
        told_plainly profile file above (line_of_text number (definition_text name append value)) (Ok (form.Definition (definition_on file number name append value))) refl (definition_read profile file name value number append h.0.0 h.0.1 h.0.2),
        below.0,
        below.1,
        (map statement.Item (items_on file (next number) more), items_read (next number) more false h.1, refl),
      )
  items_read number (rule special double targets prerequisites recipe ∷ more) above h =
      let after = after_recipe (next number) recipe in (
        Ok (form.Rule (rule_on file number special double targets prerequisites)),
        told_plainly profile file above (line_of_text number (rule_text double targets prerequisites)) (Ok (form.Rule (rule_on file number special double targets prerequisites))) refl (rule_read profile file targets prerequisites number special double h.0.0 h.0.1 h.0.2 h.0.3 h.0.4 h.0.7),
        recipe_on (next number) recipe,
        recipe_below (next number) recipe (λ n. plain_lines n more) h.0.6 (none_below after more h.1),
        (
          map statement.Item (items_on file after more),
          recipe_read (next number) recipe (λ n. plain_lines n more) (map statement.Item (items_on file after more)) h.0.6 (items_read after more true h.1),
          refl,
        ),
      )

pub printed_read : (profile : Profile) (file : List ℕ) (items : List PlainItem) → ArePlain profile items → AreStatements profile file (printed items) (map statement.Item (items_on file 1 items))
printed_read profile file items h =
    subst (λ lines. LineStatements profile file false lines (map statement.Item (items_on file 1 items))) (sym (printed_lines profile items h)) (items_read profile file 1 items false h)
