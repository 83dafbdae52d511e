-- Statements have one outcome, and an outcome, where expansions have.
use Rattle.std.proofs.Common.{◌≡◌, ℕ, Bool, true, false, List, [], ◌∷◌, Result, Ok, Err, refl, sym, ap, ◌∙◌, subst}
use Rattle.mk_assignments.specs.Line as variables
use Rattle.mk_conditionals.specs.Lines as conditionals
use Rattle.mk_conditionals.specs.Nest.{active, missing}
use Rattle.mk_conditionals.specs.Spelled.{Asked, equal, defined, invalid, Condition}
use Rattle.mk_conditionals.specs.declared.branch.Branch.{Branch}
use Rattle.mk_conditionals.specs.declared.directive.Directive.{Directive}
use Rattle.mk_conditionals.proofs.LineLemmas.{steps_once, steps_some}
use Rattle.mk_functions.specs.Variables.{Variables}
use Rattle.mk_functions.specs.Outcome.{gives, fails}
use Rattle.mk_functions.specs.Outcome as values
use Rattle.mk_functions.specs.Values.{Answers}
use Rattle.mk_functions.specs.Expansion.{ExpandsTo}
use Rattle.mk_statements.specs.Course.{Role, recipe_line, passed_over, says, role_in}
use Rattle.mk_statements.specs.Reading.{Stated}
use Rattle.mk_statements.specs.Told as told
use Rattle.mk_statements.specs.declared.course.Rule.{Rule}
use Rattle.mk_variables.specs.Table.{Listed, Table, table_of, variables_in}
use Rattle.mk_variables.specs.Statement as tables
use Rattle.mk_taken.specs.Test.{NoAnswer, has_no_value, is_no_test, Answer, are_equal, defined_as, answered, Compares, Asks}
use Rattle.mk_taken.specs.Place.{Place, Other, recipe, includes, searches, loads, expands, Why, conditional, variable, line, Step, goes_on, hands, refuses, Outcome, reaches, refused}
use Rattle.mk_taken.specs.Reading.{behind, with_nest, with_table, at_end, Where, Then, unchanged, no_statement, Tests, Turns, Directs, Defines, Says, Plays, Takes, Reads}
use Rattle.mk_taken.proofs.ListedLemmas.{IsListed, AreListed, takes_listed}

abbrev pub Once : {A : Type 0} → (A → Type 0) → Type 0
Once {A} P = (a b : A) → P a → P b → a ≡ b

where_once : (counts : Bool) (place : Place) (Counts : Step → Type 0) → Once Counts → Once (Where counts place Counts)
where_once true place Counts once a b x y = once a b x y
where_once false place Counts once a b x y = x ∙ sym y

one_step : (it : Step) → Once (λ (step : Step). step ≡ it)
one_step it a b x y = x ∙ sym y

then_once : (number : ℕ) (more : List Stated) (Rest : Place → Outcome → Type 0) → ((place : Place) → Once (Rest place)) → (step : Step) →
    Once (Then number more Rest step)
then_once number more Rest once (goes_on place) a b x y = once place a b x y
then_once number more Rest once (hands place other) a b x y = x ∙ sym y
then_once number more Rest once (refuses why) a b x y = x ∙ sym y

module _ (w : Answers) (once : (v : Variables) (text : List ℕ) → Once (ExpandsTo w v text))
    (table_once : (table : Table) (said : variables.Said) (lines : List ℕ) → Once (tables.Takes w table said lines)) where
  compares_once : (v : Variables) (first : values.Outcome) (second : List ℕ) → Once (Compares w v first second)
  compares_once v (gives one) second a b x y = x.2 ∙ ap (are_equal one) (once v second x.0 y.0 x.1 y.1) ∙ sym y.2
  compares_once v (fails fault) second a b x y = x ∙ sym y

  asks_once : (v : Variables) (asked : Asked) → Once (Asks w v asked)
  asks_once v (equal first second) a b x y =
      compares_once v y.0 second a b (subst (λ o. Compares w v o second a) (once v first x.0 y.0 x.1 y.1) x.2) y.2
  asks_once v (defined text) a b x y = x.2 ∙ ap (defined_as v) (once v text x.0 y.0 x.1 y.1) ∙ sym y.2
  asks_once v invalid a b x y = x ∙ sym y

  tests_once : (table : Table) (now : Unit {0}) (test : Condition) → Once (Tests w table now test)
  tests_once table now test a b x y =
      x.2 ∙ ap (answered test.is_negated) (asks_once (variables_in table) test.asked x.0 y.0 x.1 y.1) ∙ sym y.2

  turns_once : (table : Table) (nest : List Branch) (number : ℕ) (d : Directive Condition) → Once (Turns w table nest number d)
  turns_once table nest number d a b x y =
      steps_once unchanged (Tests w table) no_statement (tests_once table) (λ now statement a b x y. absurd statement) tt nest number d a b x y

  directs_once : (place : Place) (number : ℕ) (d : Directive Condition) → Once (Directs w place number d)
  directs_once place number d a b x y = x.2 ∙ ap (with_nest place) (turns_once place.table place.nest number d x.0 y.0 x.1 y.1) ∙ sym y.2

  defines_once : (place : Place) (said : variables.Said) (lines : List ℕ) → Once (Defines w place said lines)
  defines_once place said lines a b x y = x.2 ∙ ap (with_table place) (table_once place.table said lines x.0 y.0 x.1 y.1) ∙ sym y.2

  says_once : (place : Place) (number : ℕ) (said : told.Told) → Once (Says w place number said)
  says_once place number told.nothing a b x y = x ∙ sym y
  says_once place number (told.conditional said) a b x y = directs_once place number said.0 a b x y
  says_once place number (told.variable said) a b x y =
      where_once (active place.nest) place (Defines w (behind place (told.variable said)) said [])
      (defines_once (behind place (told.variable said)) said []) a b x y
  says_once place number (told.define modifiers d body text_behind) a b x y =
      where_once (active place.nest) place (Defines w (behind place (told.define modifiers d body text_behind)) (variables.begins modifiers d) body)
      (defines_once (behind place (told.define modifiers d body text_behind)) (variables.begins modifiers d) body) a b x y
  says_once place number (told.includes required names) a b x y =
      where_once (active place.nest) place (λ it. it ≡ hands (behind place (told.includes required names)) (includes required names)) (one_step _) a b x y
  says_once place number (told.searches text) a b x y =
      where_once (active place.nest) place (λ it. it ≡ hands (behind place (told.searches text)) (searches text)) (one_step _) a b x y
  says_once place number (told.loads required names) a b x y =
      where_once (active place.nest) place (λ it. it ≡ hands (behind place (told.loads required names)) (loads required names)) (one_step _) a b x y
  says_once place number (told.expands text after) a b x y =
      where_once (active place.nest) place (λ it. it ≡ hands (behind place (told.expands text after)) (expands text after)) (one_step _) a b x y
  says_once place number (told.refused fault) a b x y =
      where_once (active place.nest) place (λ it. it ≡ refuses (line fault)) (one_step _) a b x y

  plays_once : (place : Place) (number : ℕ) (role : Role) → Once (Plays w place number role)
  plays_once place number (recipe_line text) a b x y =
      where_once (active place.nest) place (λ it. it ≡ hands place (recipe text)) (one_step _) a b x y
  plays_once place number passed_over a b x y = x ∙ sym y
  plays_once place number (says said) a b x y = says_once place number said a b x y

  pub takes_once : (place : Place) (s : Stated) → Once (Takes w place s)
  takes_once place s a b x y = plays_once place s.line (role_in place.rule s.meaning) a b x y

  pub reads_once : (left : List Stated) (place : Place) → Once (Reads w left place)
  reads_once [] place a b x y = x ∙ sym y
  reads_once (s ∷ more) place a b x y =
      then_once s.line more (Reads w more) (reads_once more) x.0 a b x.2
      (subst (λ step. Then s.line more (Reads w more) step b) (takes_once place s y.0 x.0 y.1 x.1) y.2)

-- the variables of the place behind a step are listed
abbrev pub LeavesListed : Step → Type 0
LeavesListed (goes_on place) = IsListed place.table
LeavesListed (hands place other) = IsListed place.table
LeavesListed (refuses why) = Unit {0}

abbrev pub Some_step : (Step → Type 0) → Type 0
Some_step P = (step : Step) × P step × LeavesListed step

where_some : (counts : Bool) (place : Place) (Counts : Step → Type 0) → IsListed place.table → Some_step Counts → Some_step (Where counts place Counts)
where_some true place Counts listed some = some
where_some false place Counts listed some = (goes_on place, refl, listed)

nest_listed : (place : Place) (turned : Result (List Branch) (conditionals.Why NoAnswer)) → IsListed place.table → LeavesListed (with_nest place turned)
nest_listed place (Ok nest) listed = listed
nest_listed place (Err why) listed = tt

table_listed : (place : Place) (now : tables.Told) → AreListed now → LeavesListed (with_table place now)
table_listed place (Ok table) listed = listed
table_listed place (Err refusal) listed = tt

module _ (w : Answers) (some : (l : Listed) (text : List ℕ) → (o : values.Outcome) × ExpandsTo w (variables_in (table_of l)) text o)
    (table_some : (l : Listed) (said : variables.Said) (lines : List ℕ) → (now : tables.Told) × tables.Takes w (table_of l) said lines now) where
  module _ (l : Listed) where
    compares_some : (first : values.Outcome) (second : List ℕ) → (answer : Answer) × Compares w (variables_in (table_of l)) first second answer
    compares_some (gives one) second = let other = some l second in (are_equal one other.0, (other.0, other.1, refl))
    compares_some (fails fault) second = (Err (has_no_value fault), refl)

    asks_some : (asked : Asked) → (answer : Answer) × Asks w (variables_in (table_of l)) asked answer
    asks_some (equal first second) = let one = some l first in let rest = compares_some one.0 second in (rest.0, (one.0, one.1, rest.1))
    asks_some (defined text) = let name = some l text in (defined_as (variables_in (table_of l)) name.0, (name.0, name.1, refl))
    asks_some invalid = (Err is_no_test, refl)

    tests_some : (now : Unit {0}) (test : Condition) → (answer : Answer) × Tests w (table_of l) now test answer
    tests_some now test = let asked = asks_some test.asked in (answered test.is_negated asked.0, (asked.0, asked.1, refl))

    turns_some : (nest : List Branch) (number : ℕ) (d : Directive Condition) →
        (turned : Result (List Branch) (conditionals.Why NoAnswer)) × Turns w (table_of l) nest number d turned
    turns_some nest number d =
        steps_some unchanged (Tests w (table_of l)) no_statement tests_some (λ now statement. absurd statement) tt nest number d

  module _ (l : Listed) (nest : List Branch) (rule : Rule) where
    abbrev Here : Place
    Here = record { table = table_of l; nest = nest; rule = rule }

    directs_some : (number : ℕ) (d : Directive Condition) → Some_step (Directs w Here number d)
    directs_some number d =
        let turned = turns_some l nest number d in
        (with_nest Here turned.0, (turned.0, turned.1, refl), nest_listed Here turned.0 (l, refl))

    defines_some : (to : told.Told) (said : variables.Said) (lines : List ℕ) → Some_step (Defines w (behind Here to) said lines)
    defines_some to said lines =
        let now = table_some l said lines in
        (with_table (behind Here to) now.0, (now.0, now.1, refl), table_listed (behind Here to) now.0 (takes_listed w l said lines now.0 now.1))

    hands_some : (place : Place) (other : Other) → IsListed place.table → Some_step (λ it. it ≡ hands place other)
    hands_some place other listed = (hands place other, refl, listed)

    says_some : (number : ℕ) (said : told.Told) → Some_step (Says w Here number said)
    says_some number told.nothing = (goes_on Here, refl, (l, refl))
    says_some number (told.conditional said) = directs_some number said.0
    says_some number (told.variable said) =
        where_some (active nest) Here (Defines w (behind Here (told.variable said)) said []) (l, refl) (defines_some (told.variable said) said [])
    says_some number (told.define modifiers d body text_behind) =
        where_some (active nest) Here (Defines w (behind Here (told.define modifiers d body text_behind)) (variables.begins modifiers d) body) (l, refl)
        (defines_some (told.define modifiers d body text_behind) (variables.begins modifiers d) body)
    says_some number (told.includes required names) =
        where_some (active nest) Here (λ it. it ≡ hands (behind Here (told.includes required names)) (includes required names)) (l, refl)
        (hands_some (behind Here (told.includes required names)) (includes required names) (l, refl))
    says_some number (told.searches text) =
        where_some (active nest) Here (λ it. it ≡ hands (behind Here (told.searches text)) (searches text)) (l, refl)
        (hands_some (behind Here (told.searches text)) (searches text) (l, refl))
    says_some number (told.loads required names) =
        where_some (active nest) Here (λ it. it ≡ hands (behind Here (told.loads required names)) (loads required names)) (l, refl)
        (hands_some (behind Here (told.loads required names)) (loads required names) (l, refl))
    says_some number (told.expands text after) =
        where_some (active nest) Here (λ it. it ≡ hands (behind Here (told.expands text after)) (expands text after)) (l, refl)
        (hands_some (behind Here (told.expands text after)) (expands text after) (l, refl))
    says_some number (told.refused fault) = where_some (active nest) Here (λ it. it ≡ refuses (line fault)) (l, refl) (refuses (line fault), refl, tt)

    plays_some : (number : ℕ) (role : Role) → Some_step (Plays w Here number role)
    plays_some number (recipe_line text) =
        where_some (active nest) Here (λ it. it ≡ hands Here (recipe text)) (l, refl) (hands_some Here (recipe text) (l, refl))
    plays_some number passed_over = (goes_on Here, refl, (l, refl))
    plays_some number (says said) = says_some number said

  pub takes_some : (l : Listed) (nest : List Branch) (rule : Rule) (s : Stated) → Some_step (Takes w (record { table = table_of l; nest = nest; rule = rule }) s)
  takes_some l nest rule s = plays_some l nest rule s.line (role_in rule s.meaning)

  abbrev Has : List Stated → Type 0
  Has left = (l : Listed) (nest : List Branch) (rule : Rule) → (o : Outcome) × Reads w left (record { table = table_of l; nest = nest; rule = rule }) o

  then_some : (number : ℕ) (more : List Stated) → Has more → (step : Step) → LeavesListed step → (o : Outcome) × Then number more (Reads w more) step o
  then_some number more has (goes_on place) listed =
      let rest = has listed.0 place.nest place.rule in
      (rest.0, subst (λ t. Reads w more (record place { table = t }) rest.0) (sym listed.1) rest.1)
  then_some number more has (hands place other) listed = (reaches place number other more, refl)
  then_some number more has (refuses why) listed = (refused number why, refl)

  pub reads_some : (left : List Stated) → Has left
  reads_some [] l nest rule = (at_end (record { table = table_of l; nest = nest; rule = rule }) (missing nest), refl)
  reads_some (s ∷ more) l nest rule =
      let step = takes_some l nest rule s in
      let rest = then_some s.line more (reads_some more) step.0 step.2 in
      (rest.0, (step.0, step.1, rest.1))
