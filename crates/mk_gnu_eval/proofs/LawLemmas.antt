-- A text has one outcome, and an outcome, where expansions, statements and lines have.
use Rattle.std.proofs.Common.{ℕ, zero, suc, Bool, true, false, List, [], ◌∷◌, Option, Some, None, Result, Ok, Err, refl, sym, ap, ◌∙◌, subst}
use Rattle.mk_assignments.specs.Line as variables
use Rattle.mk_conditionals.specs.Nest.{missing}
use Rattle.mk_conditionals.specs.declared.branch.NestFault.{NestFault}
use Rattle.mk_functions.specs.Variables.{Variables}
use Rattle.mk_functions.specs.Outcome.{gives, fails}
use Rattle.mk_functions.specs.Outcome as values
use Rattle.mk_functions.specs.Expansion.{ExpandsTo}
use Rattle.mk_statements.specs.Reading.{Stated, statements}
use Rattle.mk_target_lines.specs.Comes as lines
use Rattle.mk_target_lines.specs.Rule.{Came, nothing, without_targets, defines_for, has_rule}
use Rattle.mk_taken.specs.Place.{Place, Other, recipe, includes, searches, loads, expands, Step, goes_on, hands, refuses}
use Rattle.mk_taken.specs.Reading.{Takes}
use Rattle.mk_taken.proofs.ListedLemmas.{IsListed}
use Rattle.mk_taken.proofs.LawLemmas.{Once, takes_once, LeavesListed, Some_step, takes_some}
use Rattle.mk_variables.specs.Table.{Listed, Table, table_of, variables_in}
use Rattle.mk_variables.specs.Statement as tables
use Rattle.mk_gnu_eval.specs.Item.{says_recipe, Item, statement, no_value, too_deep, loads_object, Refusal, in_line, Progress, Outcome}
use Rattle.mk_gnu_eval.specs.Reading.{Here, Told, begins, progress_in, behind_files, with_item, with_line, with_progress, told_line, told_search, included_names, Then, Each, at_end, Including, Searches, IncludesText, Includes, Hands, Does, Lines, Text, unread, Answered, Named}
use Rattle.mk_gnu_eval.specs.World.{World}

then_once : {A B : Type 0} (one : Result A Refusal) (Rest : A → Result B Refusal → Type 0) → ((now : A) → Once (Rest now)) → Once (Then one Rest)
then_once (Ok now) Rest once a b x y = once now a b x y
then_once (Err why) Rest once a b x y = x ∙ sym y

each_once : (One : List ℕ → Progress → Outcome → Type 0) → ((name : List ℕ) (now : Progress) → Once (One name now)) → (names : List (List ℕ)) (now : Progress) →
    Once (Each One names now)
each_once One once [] now a b x y = x ∙ sym y
each_once One once (name ∷ more) now a b x y =
    then_once y.0 (Each One more) (each_once One once more) a b (subst (λ one. Then one (Each One more) a) (once name now x.0 y.0 x.1 y.1) x.2) y.2

abbrev AreOnce : Including → Type 0
AreOnce Included = (file : List ℕ) (line : ℕ) (required : Bool) (name : List ℕ) (now : Progress) → Once (Included file line required name now)

module _ (world : World) (once : (v : Variables) (text : List ℕ) → Once (ExpandsTo world.answers v text))
    (table_once : (table : Table) (said : variables.Said) (lines : List ℕ) → Once (tables.Takes world.answers table said lines))
    (line_once : (v : Variables) (after : Option (List ℕ)) (text : List ℕ) → Once (lines.Comes world.answers v after text)) where
  searches_once : (file : List ℕ) (line : ℕ) (text : List ℕ) (now : Progress) → Once (Searches world.answers file line text now)
  searches_once file line text now a b x y =
      x.2 ∙ ap (told_search file line now) (once (variables_in now.table) text x.0 y.0 x.1 y.1) ∙ sym y.2

  module _ (Included : Including) (one : AreOnce Included) where
    text_once : (file : List ℕ) (line : ℕ) (required : Bool) (text : values.Outcome) (now : Progress) → Once (IncludesText world Included file line required text now)
    text_once file line required (gives text) now a b x y =
        each_once (Included file line required) (one file line required) (included_names world.answers text) now a b x y
    text_once file line required (fails fault) now a b x y = x ∙ sym y

    includes_once : (file : List ℕ) (line : ℕ) (required : Bool) (names : List ℕ) (now : Progress) → Once (Includes world Included file line required names now)
    includes_once file line required names now a b x y =
        text_once file line required y.0 now a b
        (subst (λ text. IncludesText world Included file line required text now a) (once (variables_in now.table) names x.0 y.0 x.1 y.1) x.2) y.2

    hands_once : (file : List ℕ) (line : ℕ) (here : Here) (other : Other) → Once (Hands world Included file line here other)
    hands_once file line here (recipe text) a b x y = x ∙ sym y
    hands_once file line here (includes required names) a b x y =
        x.2 ∙ ap (behind_files here) (includes_once file line required names (progress_in here) x.0 y.0 x.1 y.1) ∙ sym y.2
    hands_once file line here (searches text) a b x y =
        x.2 ∙ ap (behind_files here) (searches_once file line text (progress_in here) x.0 y.0 x.1 y.1) ∙ sym y.2
    hands_once file line here (loads required names) a b x y = x ∙ sym y
    hands_once file line here (expands text after) a b x y =
        x.2 ∙ ap (told_line file line here) (line_once (variables_in here.place.table) after text x.0 y.0 x.1 y.1) ∙ sym y.2

    does_once : (file : List ℕ) (line : ℕ) (items : List Item) (step : Step) → Once (Does world Included file line items step)
    does_once file line items (goes_on place) a b x y = x ∙ sym y
    does_once file line items (hands place other) a b x y = hands_once file line (record { place = place; items = items }) other a b x y
    does_once file line items (refuses why) a b x y = x ∙ sym y

    lines_once : (file : List ℕ) (left : List Stated) (here : Here) → Once (Lines world Included file left here)
    lines_once file [] here a b x y = x ∙ sym y
    lines_once file (s ∷ more) here a b x y =
        let step = takes_once world.answers once table_once here.place s x.0 y.0 x.1 y.1 in
        let told =
        does_once file s.line here.items y.0 x.2 y.2 (subst (λ it. Does world Included file s.line here.items it x.2) step x.3) y.3 in
        then_once y.2 (Lines world Included file more) (lines_once file more) a b (subst (λ it. Then it (Lines world Included file more) a) told x.4) y.4

    answered_once : (file : List ℕ) (line : ℕ) (required : Bool) (name : List ℕ) (answer : Option (List ℕ)) (now : Progress) →
        Once (Answered world Included file line required name answer now)
    answered_once file line required name None now a b x y = x ∙ sym y
    answered_once file line required name (Some text) now a b x y = lines_once name (statements text) (begins now) a b x y

  named_once : (levels : ℕ) → AreOnce (Named world levels)
  named_once zero file line required name now a b x y = x ∙ sym y
  named_once (suc levels) file line required name now a b x y =
      answered_once (Named world levels) (named_once levels) file line required name (world.files name) now a b x y

  pub reads_once : (levels : ℕ) (file text : List ℕ) (now : Progress) → Once (Text world (Named world levels) file text now)
  reads_once levels file text now a b x y = lines_once (Named world levels) (named_once levels) file (statements text) (begins now) a b x y

-- There is an outcome, behind which finitely many names have a variable.

abbrev Leaves : Outcome → Type 0
Leaves (Ok now) = IsListed now.table
Leaves (Err why) = Unit {0}

abbrev LeavesHere : Told → Type 0
LeavesHere (Ok here) = IsListed here.place.table
LeavesHere (Err why) = Unit {0}

abbrev Some_of : (Outcome → Type 0) → Type 0
Some_of P = (outcome : Outcome) × P outcome × Leaves outcome

abbrev Some_told : (Told → Type 0) → Type 0
Some_told P = (told : Told) × P told × LeavesHere told

then_some : (one : Outcome) → Leaves one → (Rest : Progress → Outcome → Type 0) → ((now : Progress) → IsListed now.table → Some_of (Rest now)) → Some_of (Then one Rest)
then_some (Ok now) listed Rest has = has now listed
then_some (Err why) listed Rest has = (Err why, refl, tt)

told_some : (told : Told) → LeavesHere told → (Rest : Here → Outcome → Type 0) → ((here : Here) → IsListed here.place.table → Some_of (Rest here)) → Some_of (Then told Rest)
told_some (Ok here) listed Rest has = has here listed
told_some (Err why) listed Rest has = (Err why, refl, tt)

each_some : (One : List ℕ → Progress → Outcome → Type 0) → ((name : List ℕ) (now : Progress) → IsListed now.table → Some_of (One name now)) →
    (names : List (List ℕ)) (now : Progress) → IsListed now.table → Some_of (Each One names now)
each_some One has [] now listed = (Ok now, refl, listed)
each_some One has (name ∷ more) now listed =
    let one = has name now listed in
    let rest = then_some one.0 one.2 (Each One more) (each_some One has more) in
    (rest.0, (one.0, one.1, rest.1), rest.2)

files_listed : (here : Here) (outcome : Outcome) → Leaves outcome → LeavesHere (behind_files here outcome)
files_listed here (Ok now) listed = listed
files_listed here (Err why) listed = tt

search_listed : (file : List ℕ) (line : ℕ) (now : Progress) (value : values.Outcome) → IsListed now.table → Leaves (told_search file line now value)
search_listed file line now (gives text) listed = listed
search_listed file line now (fails fault) listed = tt

came_listed : (file : List ℕ) (line : ℕ) (came : Came) (now : Progress) → IsListed now.table → IsListed (with_line file line came now).table
came_listed file line nothing now listed = listed
came_listed file line without_targets now listed = listed
came_listed file line (defines_for targets modifiers d) now listed = listed
came_listed file line (has_rule it) now listed = listed

line_listed : (file : List ℕ) (line : ℕ) (here : Here) (told : lines.Told) → IsListed here.place.table → LeavesHere (told_line file line here told)
line_listed file line here (lines.comes came) listed = came_listed file line came (progress_in here) listed
line_listed file line here (lines.refused fault) listed = tt
line_listed file line here (lines.has_no_value fault) listed = tt

end_listed : (file : List ℕ) (now : Progress) (fault : Option NestFault) → IsListed now.table → Leaves (at_end file now fault)
end_listed file now None listed = listed
end_listed file now (Some fault) listed = tt

unread_listed : (file : List ℕ) (line : ℕ) (required : Bool) (name : List ℕ) (now : Progress) → IsListed now.table → Leaves (unread file line required name now)
unread_listed file line true name now listed = tt
unread_listed file line false name now listed = listed

abbrev AreSome : Including → Type 0
AreSome Included = (file : List ℕ) (line : ℕ) (required : Bool) (name : List ℕ) (now : Progress) → IsListed now.table → Some_of (Included file line required name now)

module _ (world : World) (some : (l : Listed) (text : List ℕ) → (o : values.Outcome) × ExpandsTo world.answers (variables_in (table_of l)) text o)
    (table_some : (l : Listed) (said : variables.Said) (lines : List ℕ) → (now : tables.Told) × tables.Takes world.answers (table_of l) said lines now)
    (line_some : (l : Listed) (after : Option (List ℕ)) (text : List ℕ) → (told : lines.Told) × lines.Comes world.answers (variables_in (table_of l)) after text told) where
  expands_some : (table : Table) → IsListed table → (text : List ℕ) → (o : values.Outcome) × ExpandsTo world.answers (variables_in table) text o
  expands_some table (l, is) text = subst (λ t. (o : values.Outcome) × ExpandsTo world.answers (variables_in t) text o) (sym is) (some l text)

  comes_some : (table : Table) → IsListed table → (after : Option (List ℕ)) (text : List ℕ) → (told : lines.Told) × lines.Comes world.answers (variables_in table) after text told
  comes_some table (l, is) after text =
      subst (λ t. (told : lines.Told) × lines.Comes world.answers (variables_in t) after text told) (sym is) (line_some l after text)

  step_some : (place : Place) → IsListed place.table → (s : Stated) → Some_step (Takes world.answers place s)
  step_some place (l, is) s =
      subst (λ t. Some_step (Takes world.answers (record place { table = t }) s)) (sym is)
      (takes_some world.answers some table_some l place.nest place.rule s)

  searches_some : (file : List ℕ) (line : ℕ) (text : List ℕ) (now : Progress) → IsListed now.table → Some_of (Searches world.answers file line text now)
  searches_some file line text now listed =
      let value = expands_some now.table listed text in
      (told_search file line now value.0, (value.0, value.1, refl), search_listed file line now value.0 listed)

  module _ (Included : Including) (has : AreSome Included) where
    text_some : (file : List ℕ) (line : ℕ) (required : Bool) (text : values.Outcome) (now : Progress) → IsListed now.table →
        Some_of (IncludesText world Included file line required text now)
    text_some file line required (gives text) now listed =
        each_some (Included file line required) (has file line required) (included_names world.answers text) now listed
    text_some file line required (fails fault) now listed = (Err (in_line file line (no_value fault)), refl, tt)

    includes_some : (file : List ℕ) (line : ℕ) (required : Bool) (names : List ℕ) (now : Progress) → IsListed now.table →
        Some_of (Includes world Included file line required names now)
    includes_some file line required names now listed =
        let text = expands_some now.table listed names in
        let rest = text_some file line required text.0 now listed in
        (rest.0, (text.0, text.1, rest.1), rest.2)

    hands_some : (file : List ℕ) (line : ℕ) (here : Here) → IsListed here.place.table → (other : Other) → Some_told (Hands world Included file line here other)
    hands_some file line here listed (recipe text) =
        (Ok (with_progress here (with_item file line (says_recipe text) (progress_in here))), refl, listed)
    hands_some file line here listed (includes required names) =
        let one = includes_some file line required names (progress_in here) listed in
        (behind_files here one.0, (one.0, one.1, refl), files_listed here one.0 one.2)
    hands_some file line here listed (searches text) =
        let one = searches_some file line text (progress_in here) listed in
        (behind_files here one.0, (one.0, one.1, refl), files_listed here one.0 one.2)
    hands_some file line here listed (loads required names) = (Err (in_line file line loads_object), refl, tt)
    hands_some file line here listed (expands text after) =
        let came = comes_some here.place.table listed after text in
        (told_line file line here came.0, (came.0, came.1, refl), line_listed file line here came.0 listed)

    does_some : (file : List ℕ) (line : ℕ) (items : List Item) (step : Step) → LeavesListed step → Some_told (Does world Included file line items step)
    does_some file line items (goes_on place) listed = (Ok (record { place = place; items = items }), refl, listed)
    does_some file line items (hands place other) listed = hands_some file line (record { place = place; items = items }) listed other
    does_some file line items (refuses why) listed = (Err (in_line file line (statement why)), refl, tt)

    lines_some : (file : List ℕ) (left : List Stated) (here : Here) → IsListed here.place.table → Some_of (Lines world Included file left here)
    lines_some file [] here listed =
        (at_end file (progress_in here) (missing here.place.nest), refl, end_listed file (progress_in here) (missing here.place.nest) listed)
    lines_some file (s ∷ more) here listed =
        let step = step_some here.place listed s in
        let told = does_some file s.line here.items step.0 step.2 in
        let rest = told_some told.0 told.2 (Lines world Included file more) (lines_some file more) in
        (rest.0, (step.0, step.1, told.0, told.1, rest.1), rest.2)

    answered_some : (file : List ℕ) (line : ℕ) (required : Bool) (name : List ℕ) (answer : Option (List ℕ)) (now : Progress) → IsListed now.table →
        Some_of (Answered world Included file line required name answer now)
    answered_some file line required name None now listed =
        (unread file line required name now, refl, unread_listed file line required name now listed)
    answered_some file line required name (Some text) now listed = lines_some name (statements text) (begins now) listed

  named_some : (levels : ℕ) → AreSome (Named world levels)
  named_some zero file line required name now listed = (Err (in_line file line (too_deep name)), refl, tt)
  named_some (suc levels) file line required name now listed =
      answered_some (Named world levels) (named_some levels) file line required name (world.files name) now listed

  pub reads_some : (levels : ℕ) (file text : List ℕ) (now : Progress) → IsListed now.table → (outcome : Outcome) × Text world (Named world levels) file text now outcome
  reads_some levels file text now listed =
      let whole = lines_some (Named world levels) (named_some levels) file (statements text) (begins now) listed in
      (whole.0, whole.1)
