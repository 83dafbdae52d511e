-- What a definition makes of a variable, by its sign (GNU make manual, "Setting Variables", "The Two Flavors of Variables", "Appending More Text to
-- Variables", "Conditional Variable Assignment"; `:::=` as in "Immediately Expanded Variable Assignment" of 4.4).
use Rattle.std.specs.Prelude.{◌≡◌, ℕ, Bool, true, false, ◌||◌, if◌then◌else◌, codes, List, [], ◌∷◌, ◌++◌, Option, Some, None}
use Rattle.mk_words.specs.Texts.{substituted}
use Rattle.mk_pieces.specs.declared.function.Question.TheVariants.{Shell}
use Rattle.mk_assignments.specs.declared.sign.Sign.{Sign}
use Rattle.mk_assignments.specs.declared.sign.Sign.TheVariants as sign
use Rattle.mk_assignments.specs.declared.statement.Modifiers.{Modifiers}
use Rattle.mk_functions.specs.declared.variable.Flavor.{Flavor}
use Rattle.mk_functions.specs.declared.variable.Flavor.TheVariants.{Recursive, Simple}
use Rattle.mk_functions.specs.declared.variable.Origin.{Origin}
use Rattle.mk_functions.specs.Variables.{Variable, Variables}
use Rattle.mk_functions.specs.Outcome.{Outcome, gives, fails}
use Rattle.mk_functions.specs.Values.{Answers}
use Rattle.mk_functions.specs.Expansion.{ExpandsTo}
use Rattle.mk_variables.specs.declared.entry.Sharing.{Sharing}
use Rattle.mk_variables.specs.declared.entry.Sharing.TheVariants.{Unsaid, Exported}
use Rattle.mk_variables.specs.declared.value.Taken.{Taken}
use Rattle.mk_variables.specs.declared.value.Taken.TheVariants.{AsWritten, Expanded, Output}
use Rattle.mk_variables.specs.Table.{Entry}
use Rattle.mk_variables.specs.Ranks.{met, is_of_environment, is_passed_over}

abbrev pub taken_into : Flavor → Taken
taken_into Recursive = AsWritten
taken_into Simple = Expanded

-- what is taken of a definition's text, where this is there: the text as it is written, what it comes to where the definition stands, or what the
-- command writes that it comes to. What is appended to a simple variable is expanded
abbrev pub taken_by : Sign → (there : Option Variable) → Taken
taken_by sign.Recursive there = AsWritten
taken_by sign.Simple there = Expanded
taken_by sign.Immediate there = Expanded
taken_by sign.Conditional there = AsWritten
taken_by sign.Appending None = AsWritten
taken_by sign.Appending (Some variable) = taken_into variable.flavor
taken_by sign.Shell there = Output

abbrev pub written_by : Answers → (command : Outcome) → Outcome
written_by w (gives command) = gives (w Shell command)
written_by w (fails fault) = fails fault

-- the value of a definition with this text
abbrev pub IsValue : Answers → Variables → Taken → (text : List ℕ) → Outcome → Type 0
IsValue w variables AsWritten text outcome = outcome ≡ gives text
IsValue w variables Expanded text outcome = ExpandsTo w variables text outcome
IsValue w variables Output text outcome = (command : Outcome) × ExpandsTo w variables text command × (outcome ≡ written_by w command)

-- each dollar twice, so that an expansion gives the text again
abbrev pub escaped : List ℕ → List ℕ
escaped text = substituted (codes "$") (codes "$$") text

-- the flavor of what a sign defines anew: `!=` and `:::=` leave a recursive variable
abbrev pub flavor_by : Sign → Flavor
flavor_by sign.Recursive = Recursive
flavor_by sign.Simple = Simple
flavor_by sign.Immediate = Recursive
flavor_by sign.Conditional = Recursive
flavor_by sign.Appending = Recursive
flavor_by sign.Shell = Recursive

-- and its text
abbrev pub text_by : Sign → (value : List ℕ) → List ℕ
text_by sign.Recursive value = value
text_by sign.Simple value = value
text_by sign.Immediate value = escaped value
text_by sign.Conditional value = value
text_by sign.Appending value = value
text_by sign.Shell value = value

abbrev pub defined_anew : Sign → Origin → (value : List ℕ) → Variable
defined_anew s origin value = record { text = text_by s value; flavor = flavor_by s; origin = origin }

-- a text behind another one and a space; behind nothing it stands alone
abbrev pub joined : (text value : List ℕ) → List ℕ
joined [] value = value
joined (b ∷ bs) value = b ∷ (bs ++ 32 ∷ value)

abbrev pub appended_to : Variable → Origin → (value : List ℕ) → Variable
appended_to there origin value = record { text = joined there.text value; flavor = there.flavor; origin = origin }

abbrev pub kept_or : (is_kept : Bool) → (there new : Variable) → Variable
kept_or true there new = there
kept_or false there new = new

-- the variable that was there, as the definition meets it, or the new one where the definition isn't passed over
abbrev pub replaced_by : (is_environment_first : Bool) → (there new : Variable) → Variable
replaced_by is_first there new =
    kept_or (is_passed_over new.origin (met is_first there.origin)) (record there { origin = met is_first there.origin }) new

-- a variable behind a definition of its name: `?=` leaves one that is there, and so does appending nothing
abbrev pub redefined : (is_environment_first : Bool) → Sign → Origin → (there : Variable) → (value : List ℕ) → Variable
redefined is_first sign.Conditional origin there value = there
redefined is_first sign.Appending origin there [] = there
redefined is_first sign.Appending origin there (b ∷ bs) = replaced_by is_first there (appended_to there origin (b ∷ bs))
redefined is_first sign.Recursive origin there value = replaced_by is_first there (defined_anew sign.Recursive origin value)
redefined is_first sign.Simple origin there value = replaced_by is_first there (defined_anew sign.Simple origin value)
redefined is_first sign.Immediate origin there value = replaced_by is_first there (defined_anew sign.Immediate origin value)
redefined is_first sign.Shell origin there value = replaced_by is_first there (defined_anew sign.Shell origin value)

-- a name of which nothing else is known
abbrev pub new_entry : Variable → Entry
new_entry variable = record { variable = variable; sharing = Unsaid; is_private = false }

-- `export` and `private` in front of a definition hold also where the definition is passed over
abbrev pub marked : Modifiers → Entry → Entry
marked modifiers e =
    record { variable = e.variable; sharing = if modifiers.is_exported then Exported else e.sharing; is_private = modifiers.is_private || e.is_private }

-- what a name is behind a definition with this value
abbrev pub defined : (is_environment_first : Bool) → Modifiers → Sign → Origin → (there : Option Entry) → (value : List ℕ) → Entry
defined is_first modifiers s origin None value = marked modifiers (new_entry (defined_anew s origin value))
defined is_first modifiers s origin (Some e) value = marked modifiers (record e { variable = redefined is_first s origin e.variable value })

-- what is known of a name whose variable a definition meets
abbrev pub met_entry : (is_environment_first : Bool) → Entry → Entry
met_entry is_first e = record e { variable = record e.variable { origin = met is_first e.variable.origin } }

abbrev pub unless_stronger : (is_kept : Bool) → (there : Entry) → Option Entry
unless_stronger true there = Some there
unless_stronger false there = None

-- what a name is behind `undefine` (GNU make manual, "Undefining Variables"): nothing, and what was said of its export is forgotten, unless its variable
-- is of a stronger origin
abbrev pub undefined : (is_environment_first : Bool) → Origin → (there : Option Entry) → Option Entry
undefined is_first origin None = None
undefined is_first origin (Some e) =
    unless_stronger (is_passed_over origin (met is_first e.variable.origin)) (met_entry is_first e)

-- what came with the environment goes on to recipes (GNU make manual, "Communicating Variables to a Sub-make")
abbrev pub shared_from : (is_of_environment : Bool) → Sharing → Sharing
shared_from true sharing = Exported
shared_from false sharing = sharing

-- what a name is that the tool itself defines: as what is built in, or what the environment has
abbrev pub put_at : Variable → (there : Option Entry) → Entry
put_at variable None = record (new_entry variable) { sharing = shared_from (is_of_environment variable.origin) Unsaid }
put_at variable (Some e) = record { variable = variable; sharing = shared_from (is_of_environment variable.origin) e.sharing; is_private = e.is_private }
