-- The statements of a text: it has just one list of them, and what is gathered line by line comes to it.
use Rattle.std.proofs.Common.{◌≡◌, ℕ, ◌+◌, ◌-◌, Bool, true, false, cond, not, ◌&&◌, List, [], ◌∷◌, ◌++◌, length, slice_index_or, slice_set, refl, sym, ap, subst, ◌∙◌, arith, Option, Some, None, is_some, Result, Ok, Err, IfSome, append_assoc, append-nil}
use Rattle.std.proofs.lemmas.List.{length_push}
use Rattle.std.proofs.Math.Seq.{get_or-append_seam, set-append_seam}
use Rattle.mk_profile.specs.declared.profile.Profile.{Profile}
use Rattle.mk_lines.specs.Lines.{logical_lines}
use Rattle.mk_profile.specs.Profile.{is_wide}
use Rattle.mk_reader.specs.Form.{statement_form, form_of}
use Rattle.mk_reader.specs.Grammar.{refusal, IsForm}
use Rattle.mk_reader.specs.declared.fault.Cause.TheVariants.{TabFirst}
use Rattle.mk_reader.specs.declared.item.RecipeLine.{RecipeLine}
use Rattle.mk_reader.specs.declared.item.Definition.{Definition}
use Rattle.mk_reader.specs.declared.item.DefinitionLine.{DefinitionLine}
use Rattle.mk_reader.specs.declared.item.IncludeLine.{IncludeLine}
use Rattle.mk_reader.specs.declared.item.Rule.{Rule}
use Rattle.mk_reader.specs.declared.special.SpecialName.{SpecialName}
use Rattle.mk_reader.specs.declared.item.Item.{Item}
use Rattle.mk_reader.specs.declared.item.Item.TheVariants as item
use Rattle.mk_reader.specs.declared.item.Statement.{Statement}
use Rattle.mk_reader.specs.declared.item.Statement.TheVariants as statement
use Rattle.mk_reader.specs.declared.fault.Refusal.{Refusal}
use Rattle.mk_lines.specs.declared.line.LogicalLine.{LogicalLine}
use Rattle.mk_reader.specs.declared.form.UnfinishedRule.{UnfinishedRule}
use Rattle.mk_reader.specs.declared.form.Form.{Form}
use Rattle.mk_reader.specs.declared.form.Form.TheVariants as form
use Rattle.mk_reader.specs.Statements.{told_outside, joined_plainly, IsToldOutside, IsTold, outside_form, form_below, item_of, with_line, with_lines, recipe_from, RecipeBelow, Before, BelowRule, FormStatements, LineStatements, AreStatements, finished, AddsLine, RecipeLineTaken, Taken, ComesTo, Comes}
use Rattle.mk_reader.proofs.GrammarLemmas.{text_said, text_back, form_said, form_back}

-- There is at most one list.

-- at most one list is of this kind
abbrev IsOne : (List Statement → Type 0) → Type 0
IsOne P = (one other : List Statement) → P one → P other → one ≡ other

before_one : (front : Statement) (Rest : List Statement → Type 0) → IsOne Rest → IsOne (Before front Rest)
before_one front Rest h one other a b = a.2 ∙ ap (λ (rest : List Statement). front ∷ rest) (h a.0 b.0 a.1 b.1) ∙ sym b.2

below_one : (file : List ℕ) (number : ℕ) (above : Bool) (Rest : Bool → List Statement → Type 0) → ((now : Bool) → IsOne (Rest now)) → IsOne (BelowRule file number above Rest)
below_one file number true Rest h one other a b = h true one other a b
below_one file number false Rest h one other a b = a ∙ sym b

form_one : (file : List ℕ) (number : ℕ) (above : Bool) (told : Result Form Refusal) (below : List RecipeLine) (Rest : Bool → List Statement → Type 0) → ((now : Bool) → IsOne (Rest now)) → IsOne (FormStatements file number above told below Rest)
form_one file number above (Err fault) below Rest h one other a b = a ∙ sym b
form_one file number above (Ok form.Blank) below Rest h one other a b = h above one other a b
form_one file number above (Ok (form.Recipe line)) below Rest h one other a b = below_one file number above Rest h one other a b
form_one file number above (Ok (form.Include include)) below Rest h one other a b = before_one (statement.Include include) (Rest false) (h false) one other a b
form_one file number above (Ok (form.DefinitionLine line)) below Rest h one other a b = before_one (statement.Definition line) (Rest false) (h false) one other a b
form_one file number above (Ok (form.Definition definition)) below Rest h one other a b = before_one (statement.Item (item.Definition definition)) (Rest false) (h false) one other a b
form_one file number above (Ok (form.Rule rule)) below Rest h one other a b = before_one (statement.Item (with_lines rule below)) (Rest true) (h true) one other a b

-- each line has one form where it stands
tab_said : (profile : Profile) (file : List ℕ) (line : LogicalLine) (tab : Bool) → IsToldOutside tab profile file line (cond tab (outside_form profile file line.number line.text) (form_of profile file line))
unfolding outside_form
tab_said profile file line false = form_said profile file line
tab_said profile file line true = (statement_form profile file line.number (joined_plainly line.text), text_said file line.number profile (joined_plainly line.text), refl)

tab_back : (profile : Profile) (file : List ℕ) (line : LogicalLine) (tab : Bool) (told : Result Form Refusal) → IsToldOutside tab profile file line told →
    cond tab (outside_form profile file line.number line.text) (form_of profile file line) ≡ told
unfolding outside_form
tab_back profile file line false told is = form_back profile file line told is
tab_back profile file line true told (elsewhere, is, e) = ap (told_outside file line.number) (text_back file line.number profile (joined_plainly line.text) elsewhere is) ∙ sym e

pub told_said : (profile : Profile) (file : List ℕ) (above : Bool) (line : LogicalLine) → IsTold profile file above line (form_below profile file above line)
unfolding form_below
told_said profile file above line = tab_said profile file line (not above && (line.is_recipe && is_wide profile))

told_back : (profile : Profile) (file : List ℕ) (above : Bool) (line : LogicalLine) (told : Result Form Refusal) → IsTold profile file above line told → form_below profile file above line ≡ told
unfolding form_below
told_back profile file above line told is = tab_back profile file line (not above && (line.is_recipe && is_wide profile)) told is

told_same : (profile : Profile) (file : List ℕ) (above : Bool) (line : LogicalLine) (one other : Result Form Refusal) → IsTold profile file above line one → IsTold profile file above line other → one ≡ other
told_same profile file above line one other a b = sym (told_back profile file above line one a) ∙ told_back profile file above line other b

-- a line without a TAB is the same everywhere
pub told_plainly : (profile : Profile) (file : List ℕ) (above : Bool) (line : LogicalLine) (told : Result Form Refusal) → line.is_recipe ≡ false → IsForm profile file line told → IsTold profile file above line told
told_plainly profile file true line told plain is = is
told_plainly profile file false line told plain is = subst (λ t. IsToldOutside (t && is_wide profile) profile file line told) (sym plain) is

form_same : (profile : Profile) (file : List ℕ) (line : LogicalLine) (one other : Result Form Refusal) → IsForm profile file line one → IsForm profile file line other → one ≡ other
form_same profile file line one other a b = sym (form_back profile file line one a) ∙ form_back profile file line other b

recipe_one : (profile : Profile) (file : List ℕ) (lines : List LogicalLine) (one other : List RecipeLine) → RecipeBelow profile file lines one → RecipeBelow profile file lines other → one ≡ other
recipe_one profile file [] one other a b = a ∙ sym b
recipe_one profile file (line ∷ more) one other (told, is, rest, below, e) (also, was, last, under, f) =
    e ∙ ap (λ t. recipe_from t rest) (form_same profile file line told also is was) ∙ ap (recipe_from also) (recipe_one profile file more rest last below under) ∙ sym f

line_one : (profile : Profile) (file : List ℕ) (above : Bool) (lines : List LogicalLine) → IsOne (LineStatements profile file above lines)
line_one profile file above [] one other a b = a ∙ sym b
line_one profile file above (line ∷ more) one other (told, is, below, lies, a) (also, was, under, stands, b) =
    let Rest : Bool → List Statement → Type 0 = λ now. LineStatements profile file now more in
    form_one file line.number above also under Rest (λ now. line_one profile file now more) one other
    (subst (λ x. FormStatements file line.number above x under Rest one) (told_same profile file above line told also is was)
    (subst (λ x. FormStatements file line.number above told x Rest one) (recipe_one profile file more below under lies stands) a)) b

pub text_one : (profile : Profile) (file text : List ℕ) (one other : List Statement) → AreStatements profile file text one → AreStatements profile file text other → one ≡ other
text_one profile file text one other a b = line_one profile file false (logical_lines (is_wide profile) 1 (Some text)) one other a b

-- There is one.

abbrev Some_of : (List Statement → Type 0) → Type 0
Some_of P = (statements : List Statement) × P statements

before_some : (front : Statement) (Rest : List Statement → Type 0) → Some_of Rest → Some_of (Before front Rest)
before_some front Rest h = (front ∷ h.0, (h.0, h.1, refl))

below_some : (file : List ℕ) (number : ℕ) (above : Bool) (Rest : Bool → List Statement → Type 0) → ((now : Bool) → Some_of (Rest now)) → Some_of (BelowRule file number above Rest)
below_some file number true Rest h = h true
below_some file number false Rest h = (statement.Refused (refusal file number TabFirst) ∷ [], refl)

form_some : (file : List ℕ) (number : ℕ) (above : Bool) (told : Result Form Refusal) (below : List RecipeLine) (Rest : Bool → List Statement → Type 0) → ((now : Bool) → Some_of (Rest now)) → Some_of (FormStatements file number above told below Rest)
form_some file number above (Err fault) below Rest h = (statement.Refused fault ∷ [], refl)
form_some file number above (Ok form.Blank) below Rest h = h above
form_some file number above (Ok (form.Recipe line)) below Rest h = below_some file number above Rest h
form_some file number above (Ok (form.Include include)) below Rest h = before_some (statement.Include include) (Rest false) (h false)
form_some file number above (Ok (form.DefinitionLine line)) below Rest h = before_some (statement.Definition line) (Rest false) (h false)
form_some file number above (Ok (form.Definition definition)) below Rest h = before_some (statement.Item (item.Definition definition)) (Rest false) (h false)
form_some file number above (Ok (form.Rule rule)) below Rest h = before_some (statement.Item (with_lines rule below)) (Rest true) (h true)

pub recipe_some : (profile : Profile) (file : List ℕ) (lines : List LogicalLine) → (below : List RecipeLine) × RecipeBelow profile file lines below
recipe_some profile file [] = ([], refl)
recipe_some profile file (line ∷ more) =
    let rest = recipe_some profile file more in
    (recipe_from (form_of profile file line) rest.0, (form_of profile file line, form_said profile file line, rest.0, rest.1, refl))

line_some : (profile : Profile) (file : List ℕ) (above : Bool) (lines : List LogicalLine) → Some_of (LineStatements profile file above lines)
line_some profile file above [] = ([], refl)
line_some profile file above (line ∷ more) =
    let below = recipe_some profile file more in
    let whole = form_some file line.number above (form_below profile file above line) below.0 (λ now. LineStatements profile file now more) (λ now. line_some profile file now more) in
    (whole.0, (form_below profile file above line, told_said profile file above line, below.0, below.1, whole.1))

pub text_some : (profile : Profile) (file text : List ℕ) → Some_of (AreStatements profile file text)
text_some profile file text = line_some profile file false (logical_lines (is_wide profile) 1 (Some text))

-- What is gathered comes to it.

false_true : false ≡ true → ⊥
false_true e = cc

-- the rule with one more line of its recipe
abbrev with_text : UnfinishedRule → RecipeLine → UnfinishedRule
with_text rule text = record rule { rule = record rule.rule { recipe = rule.rule.recipe ++ text ∷ [] } }

with_text_is : (rule : UnfinishedRule) (text : RecipeLine) → with_lines rule (text ∷ []) ≡ with_lines (with_text rule text) []
with_text_is rule text = ap (λ recipe. item_of rule.special (record rule.rule { recipe = recipe })) (sym (append-nil (rule.rule.recipe ++ text ∷ [])))

module _ (profile : Profile) (file : List ℕ) (line : LogicalLine) (more : List LogicalLine) where
  -- what the line of this form, and what is left behind it, add to what was gathered
  one_more : (gathered : List Statement) (unfinished : Option UnfinishedRule) (told : Result Form Refusal) → IsTold profile file (is_some unfinished) line told → (below : List RecipeLine) → RecipeBelow profile file more below → (rest : List Statement) →
      FormStatements file line.number (is_some unfinished) told below (λ now. LineStatements profile file now more) rest →
      ComesTo profile file gathered unfinished (line ∷ more) (gathered ++ finished unfinished (recipe_from told below) ++ rest)
  one_more gathered (Some rule) told is below lies rest f = (recipe_from told below, (told, is, below, lies, refl), rest, (told, is, below, lies, f), refl)
  one_more gathered None told is below lies rest f = let all = recipe_some profile file (line ∷ more) in (all.0, all.1, rest, (told, is, below, lies, f), refl)

  pub blank_more : (gathered : List Statement) (unfinished : Option UnfinishedRule) → IsTold profile file (is_some unfinished) line (Ok form.Blank) → (whole : List Statement) → ComesTo profile file gathered unfinished more whole → ComesTo profile file gathered unfinished (line ∷ more) whole
  blank_more gathered unfinished is whole (below, lies, rest, r, e) =
      subst (ComesTo profile file gathered unfinished (line ∷ more)) (sym e) (one_more gathered unfinished (Ok form.Blank) is below lies rest r)

  recipe_added : (old : List Statement) (rule : UnfinishedRule) (text : RecipeLine) → IsTold profile file true line (Ok (form.Recipe text)) →
      (whole : List Statement) → ComesTo profile file old (Some (with_text rule text)) more whole → ComesTo profile file old (Some rule) (line ∷ more) whole
  recipe_added old rule text is whole (below, lies, rest, r, e) =
      let item : List RecipeLine → Item = λ recipe. item_of rule.special (record rule.rule { recipe = recipe }) in
      let all : with_lines (with_text rule text) below ≡ with_lines rule (text ∷ below) = ap item (append_assoc rule.rule.recipe (text ∷ []) below) in
      subst (ComesTo profile file old (Some rule) (line ∷ more)) (ap (λ i. old ++ (statement.Item i ∷ []) ++ rest) (sym all) ∙ sym e)
      (one_more old (Some rule) (Ok (form.Recipe text)) is below lies rest r)

  recipe_ends : (old new : List Statement) (text : RecipeLine) → IsTold profile file false line (Ok (form.Recipe text)) → new ≡ old ++ statement.Refused (refusal file line.number TabFirst) ∷ [] →
      ComesTo profile file old None (line ∷ more) new
  recipe_ends old new text is n =
      let below = recipe_some profile file more in
      subst (ComesTo profile file old None (line ∷ more)) (ap (λ xs. xs ++ statement.Refused (refusal file line.number TabFirst) ∷ []) (append-nil old) ∙ sym n)
      (one_more old None (Ok (form.Recipe text)) is below.0 below.1 (statement.Refused (refusal file line.number TabFirst) ∷ []) refl)

  -- a list with one more, and what is left behind it
  apart : (old done : List Statement) (one : Statement) (rest : List Statement) → (old ++ done ++ one ∷ []) ++ rest ≡ old ++ done ++ one ∷ rest
  apart old done one rest = append_assoc (old ++ done) (one ∷ []) rest

  added : (told : Result Form Refusal) (one : Statement) → ((below : List RecipeLine) → recipe_from told below ≡ []) →
      ((above : Bool) (below : List RecipeLine) (Rest : Bool → List Statement → Type 0) (rest : List Statement) → Rest false rest → FormStatements file line.number above told below Rest (one ∷ rest)) →
      (old new : List Statement) (unfinished now : Option UnfinishedRule) → IsTold profile file (is_some unfinished) line told → new ≡ old ++ finished unfinished [] ++ one ∷ [] → now ≡ None →
      (whole : List Statement) → ComesTo profile file new now more whole → ComesTo profile file old unfinished (line ∷ more) whole
  added told one none said old new unfinished now is n u whole comes =
      let (below, lies, rest, r, e) = subst (λ s. ComesTo profile file s None more whole) n (subst (λ x. ComesTo profile file new x more whole) u comes) in
      subst (ComesTo profile file old unfinished (line ∷ more))
      (ap (λ recipe. old ++ finished unfinished recipe ++ one ∷ rest) (none below) ∙ sym (apart old (finished unfinished []) one rest)
      ∙ ap (λ xs. xs ++ rest) (sym (append-nil (old ++ finished unfinished [] ++ one ∷ []))) ∙ sym e)
      (one_more old unfinished told is below lies (one ∷ rest) (said (is_some unfinished) below (λ now. LineStatements profile file now more) rest r))

  pub include_more : (old new : List Statement) (unfinished now : Option UnfinishedRule) (include : IncludeLine) → IsTold profile file (is_some unfinished) line (Ok (form.Include include)) →
      new ≡ old ++ finished unfinished [] ++ statement.Include include ∷ [] → now ≡ None →
      (whole : List Statement) → ComesTo profile file new now more whole → ComesTo profile file old unfinished (line ∷ more) whole
  include_more old new unfinished now include is =
      added (Ok (form.Include include)) (statement.Include include) (λ below. refl) (λ above below Rest rest r. (rest, r, refl)) old new unfinished now is

  pub definition_line_more : (old new : List Statement) (unfinished now : Option UnfinishedRule) (definition : DefinitionLine) → IsTold profile file (is_some unfinished) line (Ok (form.DefinitionLine definition)) →
      new ≡ old ++ finished unfinished [] ++ statement.Definition definition ∷ [] → now ≡ None →
      (whole : List Statement) → ComesTo profile file new now more whole → ComesTo profile file old unfinished (line ∷ more) whole
  definition_line_more old new unfinished now definition is =
      added (Ok (form.DefinitionLine definition)) (statement.Definition definition) (λ below. refl) (λ above below Rest rest r. (rest, r, refl)) old new unfinished now is

  pub definition_more : (old new : List Statement) (unfinished now : Option UnfinishedRule) (definition : Definition) → IsTold profile file (is_some unfinished) line (Ok (form.Definition definition)) →
      new ≡ old ++ finished unfinished [] ++ statement.Item (item.Definition definition) ∷ [] → now ≡ None →
      (whole : List Statement) → ComesTo profile file new now more whole → ComesTo profile file old unfinished (line ∷ more) whole
  definition_more old new unfinished now definition is =
      added (Ok (form.Definition definition)) (statement.Item (item.Definition definition)) (λ below. refl) (λ above below Rest rest r. (rest, r, refl)) old new unfinished now is

  pub rule_more : (old new : List Statement) (unfinished now : Option UnfinishedRule) (rule : UnfinishedRule) → IsTold profile file (is_some unfinished) line (Ok (form.Rule rule)) →
      new ≡ old ++ finished unfinished [] → now ≡ Some rule →
      (whole : List Statement) → ComesTo profile file new now more whole → ComesTo profile file old unfinished (line ∷ more) whole
  rule_more old new unfinished now rule is n u whole comes =
      let (below, lies, rest, r, e) = subst (λ s. ComesTo profile file s (Some rule) more whole) n (subst (λ x. ComesTo profile file new x more whole) u comes) in
      let one = statement.Item (with_lines rule below) in
      subst (ComesTo profile file old unfinished (line ∷ more)) (sym (append_assoc (old ++ finished unfinished []) (one ∷ []) rest) ∙ sym e)
      (one_more old unfinished (Ok (form.Rule rule)) is below lies (one ∷ rest) (rest, r, refl))

  pub refused_ends : (old new : List Statement) (unfinished : Option UnfinishedRule) (fault : Refusal) → IsTold profile file (is_some unfinished) line (Err fault) →
      new ≡ old ++ finished unfinished [] ++ statement.Refused fault ∷ [] → ComesTo profile file old unfinished (line ∷ more) new
  refused_ends old new unfinished fault is n =
      let below = recipe_some profile file more in
      subst (ComesTo profile file old unfinished (line ∷ more)) (sym n)
      (one_more old unfinished (Err fault) is below.0 below.1 (statement.Refused fault ∷ []) refl)

  -- A line that was taken in

  told_at : (told : Result Form Refusal) (above : Bool) (unfinished : Option UnfinishedRule) → above ≡ is_some unfinished → IsTold profile file above line told → IsTold profile file (is_some unfinished) line told
  told_at told above unfinished o is = subst (λ a. IsTold profile file a line told) o is

  below_open : (old new : List Statement) (now : Bool) (text : RecipeLine) → IsTold profile file true line (Ok (form.Recipe text)) → AddsLine old text new → now ≡ true →
      (whole : List Statement) → Comes profile file new now more whole → Comes profile file old true (line ∷ more) whole
  below_open old new now text is adds n whole comes front None g o = absurd (false_true (sym o))
  below_open old new now text is adds n whole comes front (Some rule) g o =
      recipe_added front rule text is whole (comes front (Some (with_text rule text)) (adds front rule g ∙ ap (λ i. front ++ statement.Item i ∷ []) (with_text_is rule text)) n)

  below_none : (old new : List Statement) (text : RecipeLine) → IsTold profile file false line (Ok (form.Recipe text)) → new ≡ old ++ statement.Refused (refusal file line.number TabFirst) ∷ [] →
      Comes profile file old false (line ∷ more) new
  below_none old new text is n front None g o = recipe_ends front new text is (n ∙ ap (λ xs. xs ++ statement.Refused (refusal file line.number TabFirst) ∷ []) (g ∙ append-nil front))
  below_none old new text is n front (Some rule) g o = absurd (false_true o)

  recipe_goes : (old new : List Statement) (above now ended : Bool) (text : RecipeLine) → IsTold profile file above line (Ok (form.Recipe text)) → RecipeLineTaken file line.number text old above new now ended → ended ≡ false →
      (whole : List Statement) → Comes profile file new now more whole → Comes profile file old above (line ∷ more) whole
  recipe_goes old new true now ended text is (f, adds, n) goes whole comes = below_open old new now text is adds n whole comes
  recipe_goes old new false now ended text is (t, n) goes whole comes = absurd (false_true (sym goes ∙ t))

  recipe_stops : (old new : List Statement) (above now ended : Bool) (text : RecipeLine) → IsTold profile file above line (Ok (form.Recipe text)) → RecipeLineTaken file line.number text old above new now ended → ended ≡ true →
      Comes profile file old above (line ∷ more) new
  recipe_stops old new true now ended text is (f, adds, n) stops = absurd (false_true (sym f ∙ stops))
  recipe_stops old new false now ended text is (t, n) stops = below_none old new text is n

  -- what is left comes to the statements that the whole comes to
  pub taken_goes : (told : Result Form Refusal) (old new : List Statement) (above now ended : Bool) → IsTold profile file above line told → Taken file line.number told old above new now ended → ended ≡ false →
      (whole : List Statement) → Comes profile file new now more whole → Comes profile file old above (line ∷ more) whole
  taken_goes (Err fault) old new above now ended is (t, n) goes whole comes = absurd (false_true (sym goes ∙ t))
  taken_goes (Ok form.Blank) old new above now ended is (f, same, also) goes whole comes = λ front unfinished g o. blank_more front unfinished (told_at (Ok form.Blank) above unfinished o is) whole (comes front unfinished (same ∙ g) (also ∙ o))
  taken_goes (Ok (form.Recipe text)) old new above now ended is taken goes whole comes = recipe_goes old new above now ended text is taken goes whole comes
  taken_goes (Ok (form.Include include)) old new above now ended is (f, n, closed) goes whole comes = λ front unfinished g o.
      include_more front new unfinished None include (told_at (Ok (form.Include include)) above unfinished o is) (n ∙ ap (λ xs. xs ++ statement.Include include ∷ []) g) refl whole (comes new None (sym (append-nil new)) closed)
  taken_goes (Ok (form.DefinitionLine definition)) old new above now ended is (f, n, closed) goes whole comes = λ front unfinished g o.
      definition_line_more front new unfinished None definition (told_at (Ok (form.DefinitionLine definition)) above unfinished o is) (n ∙ ap (λ xs. xs ++ statement.Definition definition ∷ []) g) refl whole (comes new None (sym (append-nil new)) closed)
  taken_goes (Ok (form.Definition definition)) old new above now ended is (f, n, closed) goes whole comes = λ front unfinished g o.
      definition_more front new unfinished None definition (told_at (Ok (form.Definition definition)) above unfinished o is) (n ∙ ap (λ xs. xs ++ statement.Item (item.Definition definition) ∷ []) g) refl whole (comes new None (sym (append-nil new)) closed)
  taken_goes (Ok (form.Rule rule)) old new above now ended is (f, n, opened) goes whole comes = λ front unfinished g o.
      let done = front ++ finished unfinished [] in
      rule_more front done unfinished (Some rule) rule (told_at (Ok (form.Rule rule)) above unfinished o is) refl refl whole (comes done (Some rule) (n ∙ ap (λ xs. xs ++ statement.Item (with_lines rule []) ∷ []) g) opened)

  -- the whole comes to what is gathered
  pub taken_ends : (told : Result Form Refusal) (old new : List Statement) (above now ended : Bool) → IsTold profile file above line told → Taken file line.number told old above new now ended → ended ≡ true →
      Comes profile file old above (line ∷ more) new
  taken_ends (Err fault) old new above now ended is (t, n) ends = λ front unfinished g o. refused_ends front new unfinished fault (told_at (Err fault) above unfinished o is) (n ∙ ap (λ xs. xs ++ statement.Refused fault ∷ []) g)
  taken_ends (Ok form.Blank) old new above now ended is (f, same, also) ends = absurd (false_true (sym f ∙ ends))
  taken_ends (Ok (form.Recipe text)) old new above now ended is taken ends = recipe_stops old new above now ended text is taken ends
  taken_ends (Ok (form.Include include)) old new above now ended is (f, n, closed) ends = absurd (false_true (sym f ∙ ends))
  taken_ends (Ok (form.DefinitionLine definition)) old new above now ended is (f, n, closed) ends = absurd (false_true (sym f ∙ ends))
  taken_ends (Ok (form.Definition definition)) old new above now ended is (f, n, closed) ends = absurd (false_true (sym f ∙ ends))
  taken_ends (Ok (form.Rule rule)) old new above now ended is (f, n, opened) ends = absurd (false_true (sym f ∙ ends))

-- a rule line that is read in one go is taken in
pub plain_taken : (file : List ℕ) (number : ℕ) (told : Result Form Refusal) (found : Option Rule) (rule : Rule) → IfSome found (λ r. told ≡ Ok (form.Rule (record { special = None; rule = r }))) → found ≡ Some rule →
    (old new : List Statement) (above now : Bool) → new ≡ old ++ statement.Item (item.Rule rule) ∷ [] → now ≡ true → Taken file number told old above new now false
plain_taken file number told found rule is some old new above now n opened =
    let read : told ≡ Ok (form.Rule (record { special = None; rule = rule })) = subst (λ o. IfSome o (λ r. told ≡ Ok (form.Rule (record { special = None; rule = r })))) some is in
    let whole : item.Rule rule ≡ with_lines (record { special = None; rule = rule }) [] = ap (λ (recipe : List RecipeLine). item.Rule (record rule { recipe = recipe })) (sym (append-nil rule.recipe)) in
    subst (λ t. Taken file number t old above new now false) (sym read) (refl, n ∙ ap (λ i. old ++ statement.Item i ∷ []) whole, opened)

-- a line is added to the rule that stands last
pub adds_at_last : (old : List Statement) (n : ℕ) (last new : Statement) (line : RecipeLine) → n ≡ length old → last ≡ slice_index_or old (n - 1) last → new ≡ with_line last line → AddsLine old line (slice_set old (n - 1) new)
adds_at_last old n last new line count read written front rule e =
    let one = statement.Item (with_lines rule []) in
    let size : n ≡ length front + 1 = count ∙ ap length e ∙ length_push front one in
    let place : n - 1 ≡ length front = omega (arith, size) in
    let same : last ≡ one = read ∙ ap (λ i. slice_index_or old i last) place ∙ ap (λ xs. slice_index_or xs (length front) last) e ∙ get_or-append_seam front one [] last in
    ap (λ i. slice_set old i new) place ∙ ap (λ xs. slice_set xs (length front) new) e ∙ set-append_seam front one [] new
    ∙ ap (λ x. front ++ x ∷ []) (written ∙ ap (λ x. with_line x line) same ∙ line_in rule.special)
  where
    line_in : (special : Option SpecialName) → with_line (statement.Item (item_of special (record rule.rule { recipe = rule.rule.recipe ++ [] }))) line ≡ statement.Item (item_of special (record rule.rule { recipe = rule.rule.recipe ++ line ∷ [] }))
    line_in None = ap (λ recipe. statement.Item (item.Rule (record rule.rule { recipe = recipe ++ line ∷ [] }))) (append-nil rule.rule.recipe)
    line_in (Some name) = ap (λ recipe. statement.Item (item.Special (record { name = name; rule = record rule.rule { recipe = recipe ++ line ∷ [] } }))) (append-nil rule.rule.recipe)

-- where nothing stands there is none
pub adds_nothing : (old new : List Statement) (line : RecipeLine) → old ≡ [] → AddsLine old line new
adds_nothing old new line none front rule e = absurd (no_more front (sym none ∙ e))
  where
    no_more : (xs : List Statement) → [] ≡ xs ++ statement.Item (with_lines rule []) ∷ [] → ⊥
    no_more [] e = absurd (cc e)
    no_more (x ∷ xs) e = absurd (cc e)

-- at the start nothing is gathered
pub comes_from_start : (profile : Profile) (file text : List ℕ) (gathered : List Statement) (above : Bool) → gathered ≡ [] → above ≡ false → (whole : List Statement) →
    Comes profile file gathered above (logical_lines (is_wide profile) 1 (Some text)) whole → AreStatements profile file text whole
comes_from_start profile file text gathered above g f whole comes =
    let (below, lies, rest, r, e) = comes [] None g f in
    subst (AreStatements profile file text) (sym e) r

-- at the end no line is left
pub comes_at_end : (profile : Profile) (file : List ℕ) (gathered : List Statement) (above : Bool) → Comes profile file gathered above [] gathered
comes_at_end profile file gathered above front unfinished g o = ([], refl, [], refl, g ∙ sym (append-nil (front ++ finished unfinished [])))
