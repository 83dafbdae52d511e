-- What the statements of a text come to, read in their order (GNU make manual, "How make Reads a Makefile" and "Syntax of Conditionals"; GNU make 4.3):
-- definitions change the variables, conditionals decide by these what counts, and what is left is handed on.
use Rattle.std.specs.Prelude.{◌≡◌, ℕ, Bool, true, false, List, [], ◌∷◌, Option, Some, None, Result, Ok, Err}
use Rattle.mk_assignments.specs.Line as variables
use Rattle.mk_conditionals.specs.Lines as conditionals
use Rattle.mk_conditionals.specs.Nest.{active, missing}
use Rattle.mk_conditionals.specs.Spelled.{Condition}
use Rattle.mk_conditionals.specs.declared.branch.Branch.{Branch}
use Rattle.mk_conditionals.specs.declared.branch.NestFault.{NestFault}
use Rattle.mk_conditionals.specs.declared.directive.Directive.{Directive}
use Rattle.mk_functions.specs.Values.{Answers}
use Rattle.mk_statements.specs.Course.{Role, recipe_line, passed_over, says, role_in, rule_behind}
use Rattle.mk_statements.specs.Reading.{Stated}
use Rattle.mk_statements.specs.Told as told
use Rattle.mk_statements.specs.declared.course.Rule.TheVariants.{Closed}
use Rattle.mk_variables.specs.Table.{Table, variables_in}
use Rattle.mk_variables.specs.Statement as tables
use Rattle.mk_taken.specs.Test.{NoAnswer, Answer, Holds}
use Rattle.mk_taken.specs.Place.{Place, recipe, includes, searches, loads, expands, Why, conditional, variable, line, Step, goes_on, hands, refuses, Outcome, ends, reaches, refused, unended}

-- the place behind a statement that counts and says this: where it is expanded, no rule is open until the caller says what it came to
abbrev pub behind : Place → told.Told → Place
behind place said = record place { rule = rule_behind place.rule said Closed }

-- what a directive comes to, by what it makes of the conditionals that are open
abbrev pub with_nest : Place → Result (List Branch) (conditionals.Why NoAnswer) → Step
with_nest place (Ok nest) = goes_on (record place { nest = nest })
with_nest place (Err why) = refuses (conditional why)

-- what a definition comes to, by what it makes of the variables
abbrev pub with_table : Place → tables.Told → Step
with_table place (Ok now) = goes_on (record place { table = now })
with_table place (Err refusal) = refuses (variable refusal)

-- the end of statements, by what is missing there
abbrev pub at_end : Place → Option NestFault → Outcome
at_end place None = ends place
at_end place (Some fault) = unended fault

-- a statement that doesn't count makes nothing
abbrev pub Where : (counts : Bool) → Place → (Step → Type 0) → Step → Type 0
Where true place Counts step = Counts step
Where false place Counts step = step ≡ goes_on place

-- what statements come to behind a step
abbrev pub Then : (number : ℕ) → (more : List Stated) → (Place → Outcome → Type 0) → Step → Outcome → Type 0
Then number more Rest (goes_on place) outcome = Rest place outcome
Then number more Rest (hands place other) outcome = outcome ≡ reaches place number other more
Then number more Rest (refuses why) outcome = outcome ≡ refused number why

-- among the lines of mk_conditionals directives alone are asked for: there are no statements, and the variables stay what they are
abbrev pub unchanged : Unit {0} → List (Unit {0}) → Unit {0}
unchanged now items = now

abbrev pub no_statement : Unit {0} → ⊥ → Result (List (Unit {0})) NoAnswer → Type 0
no_statement now statement items = ⊥

module _ (w : Answers) where
  -- a test, as directives ask for it
  abbrev pub Tests : Table → Unit {0} → Condition → Answer → Type 0
  Tests table now test answer = Holds w (variables_in table) test answer

  -- what a directive makes of the conditionals that are open
  abbrev pub Turns : Table → List Branch → (number : ℕ) → Directive Condition → Result (List Branch) (conditionals.Why NoAnswer) → Type 0
  Turns table nest number d turned = conditionals.Steps unchanged (Tests table) no_statement tt nest number d turned

  abbrev pub Directs : Place → (number : ℕ) → Directive Condition → Step → Type 0
  Directs place number d step =
      (turned : Result (List Branch) (conditionals.Why NoAnswer)) × Turns place.table place.nest number d turned × (step ≡ with_nest place turned)

  -- what is said of variables, with the lines of a `define`
  abbrev pub Defines : Place → variables.Said → (lines : List ℕ) → Step → Type 0
  Defines place said lines step = (now : tables.Told) × tables.Takes w place.table said lines now × (step ≡ with_table place now)

  -- a statement, by what it says. Conditionals are looked at also where lines don't count
  abbrev pub Says : Place → (number : ℕ) → told.Told → Step → Type 0
  Says place number told.nothing step = step ≡ goes_on place
  Says place number (told.conditional said) step = Directs place number said.0 step
  Says place number (told.variable said) step = Where (active place.nest) place (Defines (behind place (told.variable said)) said []) step
  Says place number (told.define modifiers d body text_behind) step =
      Where (active place.nest) place (Defines (behind place (told.define modifiers d body text_behind)) (variables.begins modifiers d) body) step
  Says place number (told.includes required names) step =
      Where (active place.nest) place (λ it. it ≡ hands (behind place (told.includes required names)) (includes required names)) step
  Says place number (told.searches text) step = Where (active place.nest) place (λ it. it ≡ hands (behind place (told.searches text)) (searches text)) step
  Says place number (told.loads required names) step =
      Where (active place.nest) place (λ it. it ≡ hands (behind place (told.loads required names)) (loads required names)) step
  Says place number (told.expands text after) step =
      Where (active place.nest) place (λ it. it ≡ hands (behind place (told.expands text after)) (expands text after)) step
  Says place number (told.refused fault) step = Where (active place.nest) place (λ it. it ≡ refuses (line fault)) step

  -- a statement, by what it is in its place: a recipe's line leaves the rule open
  abbrev pub Plays : Place → (number : ℕ) → Role → Step → Type 0
  Plays place number (recipe_line text) step = Where (active place.nest) place (λ it. it ≡ hands place (recipe text)) step
  Plays place number passed_over step = step ≡ goes_on place
  Plays place number (says said) step = Says place number said step

  -- what a statement comes to
  abbrev pub Takes : Place → Stated → Step → Type 0
  Takes place s step = Plays place s.line (role_in place.rule s.meaning) step

  -- what statements come to from a place on
  abbrev pub Reads : List Stated → Place → Outcome → Type 0
  Reads [] place outcome = outcome ≡ at_end place (missing place.nest)
  Reads (s ∷ more) place outcome = (step : Step) × Takes place s step × Then s.line more (Reads more) step outcome
