-- The crate's own values as the definitions see them.
use Rattle.std.specs.Prelude.{ℕ, ◌<◌, length, Option, Some, None, Ok, Err, map, option_copied}
use Rattle.mk_conditionals.specs.Lines as conditionals
use Rattle.mk_functions.specs.Shown.{fault_of}
use Rattle.mk_functions.specs.declared.fault.Stop.TheVariants as stop
use Rattle.mk_statements.specs.Reading.{stated}
use Rattle.mk_variables.specs.Table.{Table}
use Rattle.mk_variables.specs.Statement as tables
use Rattle.mk_variables.specs.Shown.{Refuses}
use Rattle.mk_taken.specs.Test.{NoAnswer, has_no_value, is_no_test}
use Rattle.mk_taken.specs.Place.{Place, Other, recipe, includes, searches, loads, expands, Why, conditional, variable, line, Step, goes_on, hands, Outcome, ends, reaches, refused, unended}
use Rattle.mk_taken.specs.declared.fault.NoAnswer as code_answer
use Rattle.mk_taken.specs.declared.fault.NoAnswer.TheVariants as answer
use Rattle.mk_taken.specs.declared.fault.Unturned as code_unturned
use Rattle.mk_taken.specs.declared.fault.Unturned.TheVariants as unturned
use Rattle.mk_taken.specs.declared.fault.Why as code_why
use Rattle.mk_taken.specs.declared.fault.Why.TheVariants as why
use Rattle.mk_taken.specs.declared.fault.Refused as code_refused
use Rattle.mk_taken.specs.declared.fault.Refused.TheVariants as end
use Rattle.mk_taken.specs.declared.other.Other as code_other
use Rattle.mk_taken.specs.declared.other.Other.TheVariants as other
use Rattle.mk_taken.specs.declared.other.Reached as code_reached
use Rattle.mk_taken.specs.declared.other.Reached.TheVariants as reached
use Rattle.mk_taken.specs.declared.reading.Reading as code_reading

abbrev pub place_of : Table → code_reading.Reading → Place
place_of table r = record { table = table; nest = r.nest; rule = r.rule }

abbrev pub other_by : code_other.Other → Other
other_by (other.Recipe text) = recipe text.now
other_by (other.Includes required names) = includes required names.now
other_by (other.Vpath text) = searches text.now
other_by (other.Loads required names) = loads required names.now
other_by (other.Expands text behind) = expands text.now (option_copied behind)

-- a statement that isn't refused, by what is handed on
abbrev pub step_of : Place → Option code_other.Other → Step
step_of place None = goes_on place
step_of place (Some it) = hands place (other_by it)

abbrev pub outcome_of : Place → code_reached.Reached → Outcome
outcome_of place reached.End = ends place
outcome_of place (reached.Other number it left) = reaches place number (other_by it) (map stated left.now)

-- fewer than so many statements are left
abbrev pub LeavesFewer : (count : ℕ) → code_reached.Reached → Type 0
LeavesFewer count reached.End = Unit {0}
LeavesFewer count (reached.Other number it left) = length left.now < count

-- why there is no answer, as what is told of the test, or something that says nothing of it
abbrev pub Unanswered : (Tells : NoAnswer → Type 0) → code_answer.NoAnswer → Type 0
Unanswered Tells (answer.Stop stop.OutOfMemory) = Unit {0}
Unanswered Tells (answer.Stop stop.TakesTooLong) = Unit {0}
Unanswered Tells (answer.Stop (stop.Fault fault)) = Tells (has_no_value (fault_of fault))
Unanswered Tells answer.NoTest = Tells is_no_test

-- the same of a directive, of a statement and of a list of statements
abbrev pub IsUnturned : (Tells : conditionals.Why NoAnswer → Type 0) → code_unturned.Unturned → Type 0
IsUnturned Tells (unturned.Test none) = Unanswered (λ it. Tells (conditionals.faulty it)) none
IsUnturned Tells (unturned.Misplaced fault) = Tells (conditionals.misplaced fault)

abbrev pub OfVariables : (Tells : Why → Type 0) → tables.Told → Type 0
OfVariables Tells (Ok now) = ⊥
OfVariables Tells (Err refusal) = Tells (variable refusal)

abbrev pub Stops : (Tells : Why → Type 0) → code_why.Why → Type 0
Stops Tells (why.Conditional it) = IsUnturned (λ told. Tells (conditional told)) it
Stops Tells (why.Variables refusal) = Refuses (OfVariables Tells) refusal
Stops Tells (why.Line fault) = Tells (line fault)

abbrev pub IsRefused : (Tells : Outcome → Type 0) → code_refused.Refused → Type 0
IsRefused Tells (end.At number it) = Stops (λ told. Tells (refused number told)) it
IsRefused Tells (end.Unended fault) = Tells (unended fault)
