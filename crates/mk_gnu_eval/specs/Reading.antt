-- What a makefile's text comes to, read in its order with the files that it includes, as a relation (GNU make manual, "How make Reads a Makefile" and
-- "Including Other Makefiles"; GNU make 4.3).
use Rattle.std.specs.Prelude.{◌≡◌, ◌||◌, ◌==◌, if◌then◌else◌, ℕ, zero, suc, Bool, true, false, List, [], ◌∷◌, ◌++◌, flat_map, Option, Some, None, Result, Ok, Err}
use Rattle.std.specs.List.{list_any}
use Rattle.mk_conditionals.specs.Nest.{missing}
use Rattle.mk_conditionals.specs.declared.branch.NestFault.{NestFault}
use Rattle.mk_functions.specs.Outcome as values
use Rattle.mk_functions.specs.Outcome.{gives, fails}
use Rattle.mk_functions.specs.Values.{Answers}
use Rattle.mk_functions.specs.Expansion.{ExpandsTo}
use Rattle.mk_pieces.specs.declared.function.Question.TheVariants.{Wildcard}
use Rattle.mk_statements.specs.Reading.{Stated, statements}
use Rattle.mk_statements.specs.declared.course.Rule as open_rule
use Rattle.mk_statements.specs.declared.course.Rule.TheVariants.{Closed, Open, WithoutTargets}
use Rattle.mk_taken.specs.Place.{Place, Other, recipe, includes, searches, loads, expands, Step, goes_on, hands, refuses}
use Rattle.mk_taken.specs.Reading.{Takes}
use Rattle.mk_target_lines.specs.Comes as lines
use Rattle.mk_target_lines.specs.Rule.{Came, nothing, without_targets, defines_for, has_rule}
use Rattle.mk_variables.specs.Table.{variables_in}
use Rattle.mk_words.specs.Words.{words_of}
use Rattle.mk_gnu_eval.specs.Item.{Said, says_rule, says_recipe, says_definition, says_search, Item, statement, target_line, no_value, missing_file, too_deep, loads_object, Refusal, in_line, unended, Progress, Outcome}
use Rattle.mk_gnu_eval.specs.World.{World}

-- where the next statement of a file stands: over which variables, in which conditionals, behind which rule; and the items so far, of all files
pub record Here : Type 0 where
  pub place : Place
  pub items : List Item

-- how it stands behind a statement, or why there is none
abbrev pub Told : Type 0
Told = Result Here Refusal

-- where a file begins: its conditionals are its own, and no rule is open
abbrev pub begins : Progress → Here
begins now = record { place = record { table = now.table; nest = []; rule = Closed }; items = now.items }

abbrev pub progress_in : Here → Progress
progress_in here = record { table = here.place.table; items = here.items }

-- how it stands behind what was read in between: the conditionals and the rule are as before
abbrev pub behind_files : Here → Outcome → Told
behind_files here (Ok now) = Ok (record { place = record { table = now.table; nest = here.place.nest; rule = here.place.rule }; items = now.items })
behind_files here (Err why) = Err why

abbrev pub item_at : (file : List ℕ) → (line : ℕ) → Said → Item
item_at file line said = record { file = file; line = line; said = said }

abbrev pub with_item : (file : List ℕ) → (line : ℕ) → Said → Progress → Progress
with_item file line said now = record { table = now.table; items = now.items ++ item_at file line said ∷ [] }

-- what lines behind a TAB belong to, behind a line that comes to this
abbrev pub opened_by : Came → open_rule.Rule
opened_by nothing = Closed
opened_by without_targets = WithoutTargets
opened_by (defines_for targets modifiers d) = Closed
opened_by (has_rule it) = Open

-- what is kept of it
abbrev pub with_line : (file : List ℕ) → (line : ℕ) → Came → Progress → Progress
with_line file line nothing now = now
with_line file line without_targets now = now
with_line file line (defines_for targets modifiers d) now = with_item file line (says_definition targets modifiers d) now
with_line file line (has_rule it) now = with_item file line (says_rule it) now

-- how it stands behind what was added
abbrev pub with_progress : Here → Progress → Here
with_progress here now = record { place = record { table = now.table; nest = here.place.nest; rule = here.place.rule }; items = now.items }

-- how it stands behind a line that is expanded, and opens this
abbrev pub behind_line : Here → open_rule.Rule → Progress → Here
behind_line here rule now = record { place = record { table = now.table; nest = here.place.nest; rule = rule }; items = now.items }

abbrev pub told_line : (file : List ℕ) → (line : ℕ) → Here → lines.Told → Told
told_line file line here (lines.comes came) = Ok (behind_line here (opened_by came) (with_line file line came (progress_in here)))
told_line file line here (lines.refused fault) = Err (in_line file line (target_line fault))
told_line file line here (lines.has_no_value fault) = Err (in_line file line (no_value fault))

-- behind a line of `vpath`
abbrev pub told_search : (file : List ℕ) → (line : ℕ) → Progress → values.Outcome → Outcome
told_search file line now (gives text) = Ok (with_item file line (says_search text) now)
told_search file line now (fails fault) = Err (in_line file line (no_value fault))

abbrev pub Searches : Answers → (file : List ℕ) → (line : ℕ) → (text : List ℕ) → Progress → Outcome → Type 0
Searches w file line text now outcome =
    (value : values.Outcome) × ExpandsTo w (variables_in now.table) text value × (outcome ≡ told_search file line now value)

-- the signs of a pattern of names: `*`, `?` and `[`
abbrev pub is_sign : ℕ → Bool
is_sign b = b == 42 || b == 63 || b == 91

abbrev pub or_itself : (name : List ℕ) → (found : List (List ℕ)) → List (List ℕ)
or_itself name [] = name ∷ []
or_itself name (found ∷ more) = found ∷ more

-- the files that fit a pattern of names; where none does, the name counts itself
abbrev pub names_for : Answers → (name : List ℕ) → List (List ℕ)
names_for w name = if list_any is_sign name then or_itself name (words_of (w Wildcard name)) else name ∷ []

abbrev pub included_names : Answers → (text : List ℕ) → List (List ℕ)
included_names w text = flat_map (names_for w) (words_of text)

-- behind an outcome comes what Rest allows; a refusal ends the reading
abbrev pub Then : {A B : Type 0} → Result A Refusal → (A → Result B Refusal → Type 0) → Result B Refusal → Type 0
Then (Ok now) Rest outcome = Rest now outcome
Then (Err why) Rest outcome = outcome ≡ Err why

-- files of these names, one behind the other; One says it of each
abbrev pub Each : (One : List ℕ → Progress → Outcome → Type 0) → (names : List (List ℕ)) → Progress → Outcome → Type 0
Each One [] now outcome = outcome ≡ Ok now
Each One (name ∷ more) now outcome = (one : Outcome) × One name now one × Then one (Each One more) outcome

-- the end of a file
abbrev pub at_end : (file : List ℕ) → Progress → Option NestFault → Outcome
at_end file now None = Ok now
at_end file now (Some fault) = Err (unended file fault)

-- what a line of a file that includes another one makes of what was read, by that one's name
abbrev pub Including : Type 1
Including = (file : List ℕ) → (line : ℕ) → (required : Bool) → (name : List ℕ) → Progress → Outcome → Type 0

module _ (world : World) (Included : Including) where
  -- the files of an include line whose text came to this
  abbrev pub IncludesText : (file : List ℕ) → (line : ℕ) → (required : Bool) → values.Outcome → Progress → Outcome → Type 0
  IncludesText file line required (gives text) now outcome = Each (Included file line required) (included_names world.answers text) now outcome
  IncludesText file line required (fails fault) now outcome = outcome ≡ Err (in_line file line (no_value fault))

  abbrev pub Includes : (file : List ℕ) → (line : ℕ) → (required : Bool) → (names : List ℕ) → Progress → Outcome → Type 0
  Includes file line required names now outcome =
      (text : values.Outcome) × ExpandsTo world.answers (variables_in now.table) names text × IncludesText file line required text now outcome

  -- a statement that says nothing of conditionals and variables
  abbrev pub Hands : (file : List ℕ) → (line : ℕ) → Here → Other → Told → Type 0
  Hands file line here (recipe text) told = told ≡ Ok (with_progress here (with_item file line (says_recipe text) (progress_in here)))
  Hands file line here (includes required names) told =
      (outcome : Outcome) × Includes file line required names (progress_in here) outcome × (told ≡ behind_files here outcome)
  Hands file line here (searches text) told =
      (outcome : Outcome) × Searches world.answers file line text (progress_in here) outcome × (told ≡ behind_files here outcome)
  Hands file line here (loads required names) told = told ≡ Err (in_line file line loads_object)
  Hands file line here (expands text after) told =
      (came : lines.Told) × lines.Comes world.answers (variables_in here.place.table) after text came × (told ≡ told_line file line here came)

  -- a statement, by what it comes to in its place
  abbrev pub Does : (file : List ℕ) → (line : ℕ) → (items : List Item) → Step → Told → Type 0
  Does file line items (goes_on place) told = told ≡ Ok (record { place = place; items = items })
  Does file line items (hands place other) told = Hands file line (record { place = place; items = items }) other told
  Does file line items (refuses why) told = told ≡ Err (in_line file line (statement why))

  -- statements of a file, one behind the other
  abbrev pub Lines : (file : List ℕ) → List Stated → Here → Outcome → Type 0
  Lines file [] here outcome = outcome ≡ at_end file (progress_in here) (missing here.place.nest)
  Lines file (s ∷ more) here outcome =
      (step : Step) × Takes world.answers here.place s step × (told : Told) × Does file s.line here.items step told × Then told (Lines file more) outcome

  -- the text of a file
  abbrev pub Text : (file : List ℕ) → (text : List ℕ) → Progress → Outcome → Type 0
  Text file text now outcome = Lines file (statements text) (begins now) outcome

-- what comes of a file that isn't there: nothing where the line says that it may be missing
abbrev pub unread : (file : List ℕ) → (line : ℕ) → (required : Bool) → (name : List ℕ) → Progress → Outcome
unread file line true name now = Err (in_line file line (missing_file name))
unread file line false name now = Ok now

-- a file that an include line names, which has this content or isn't there; Included says it of the names in it
abbrev pub Answered : World → Including → (file : List ℕ) → (line : ℕ) → (required : Bool) → (name : List ℕ) → Option (List ℕ) → Progress → Outcome → Type 0
Answered world Included file line required name None now outcome = outcome ≡ unread file line required name now
Answered world Included file line required name (Some text) now outcome = Text world Included name text now outcome

-- the same where so many levels of included files may be open
abbrev pub Named : World → (levels : ℕ) → (file : List ℕ) → (line : ℕ) → (required : Bool) → (name : List ℕ) → Progress → Outcome → Type 0
Named world zero file line required name now outcome = outcome ≡ Err (in_line file line (too_deep name))
Named world (suc levels) file line required name now outcome =
    Answered world (Named world levels) file line required name (world.files name) now outcome

-- how deep includes may be nested (own)
abbrev pub depth : ℕ
depth = 16
