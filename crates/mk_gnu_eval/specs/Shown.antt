-- The crate's own values as the definitions see them.
use Rattle.std.specs.Prelude.{◌≡◌, ℕ, List, map, Option}
use Rattle.mk_functions.specs.Expansion.{ExpandsTo}
use Rattle.mk_functions.specs.Outcome.{fails}
use Rattle.mk_functions.specs.Outcome as values
use Rattle.mk_functions.specs.Values.{Answers}
use Rattle.mk_functions.specs.Variables.{Variables}
use Rattle.mk_statements.specs.Reading.{Stated}
use Rattle.mk_statements.specs.declared.course.Rule as open_rule
use Rattle.mk_taken.specs.Place.{ends, reaches, refused}
use Rattle.mk_taken.specs.Place as taken
use Rattle.mk_taken.specs.Reading.{Reads}
use Rattle.mk_taken.specs.Shown as taken_shown
use Rattle.mk_taken.specs.declared.reading.Reading as code_reading
use Rattle.mk_target_lines.specs.Comes as lines
use Rattle.mk_target_lines.specs.Rule.{Came}
use Rattle.mk_target_lines.specs.Shown.{NoValue, rule_of, defined_of}
use Rattle.mk_target_lines.specs.Shown as lines_shown
use Rattle.mk_variables.specs.Table.{table_of, variables_in}
use Rattle.mk_gnu_eval.specs.Item.{Said, says_rule, says_recipe, says_definition, says_search, Item, Cause, statement, target_line, no_value, missing_file, too_deep, loads_object, Refusal, in_line, unended, Progress}
use Rattle.mk_gnu_eval.specs.Reading.{Here, opened_by, with_line}
use Rattle.mk_gnu_eval.specs.declared.fault.Cause as code_cause
use Rattle.mk_gnu_eval.specs.declared.fault.Cause.TheVariants as cause
use Rattle.mk_gnu_eval.specs.declared.fault.Fault as code_fault
use Rattle.mk_gnu_eval.specs.declared.fault.Fault.TheVariants as fault
use Rattle.mk_gnu_eval.specs.declared.fault.Refused as code_refused
use Rattle.mk_gnu_eval.specs.declared.fault.Refused.TheVariants as end
use Rattle.mk_gnu_eval.specs.declared.item.Item as code_item
use Rattle.mk_gnu_eval.specs.declared.item.Said as code_said
use Rattle.mk_gnu_eval.specs.declared.item.Said.TheVariants as said
use Rattle.mk_gnu_eval.specs.declared.progress.Progress as code_progress

abbrev pub said_by : code_said.Said → Said
said_by (said.Rule it) = says_rule (rule_of it)
said_by (said.Recipe text) = says_recipe text.items
said_by (said.Defines it) = says_definition it.targets it.modifiers (defined_of it)
said_by (said.Vpath text) = says_search text.items

abbrev pub item_of : code_item.Item → Item
item_of it = record { file = it.file.items; line = it.line; said = said_by it.said }

abbrev pub progress_of : code_progress.Progress → Progress
progress_of p = record { table = table_of p.table; items = map item_of p.items.items }

-- where the next statement stands of a file that is read
abbrev pub here_of : code_reading.Reading → code_progress.Progress → Here
here_of r p = record { place = taken_shown.place_of (table_of p.table) r; items = map item_of p.items.items }

-- why statements end the reading of a file
abbrev pub OfStatements : (Tells : Refusal → Type 0) → (file : List ℕ) → taken.Outcome → Type 0
OfStatements Tells file (ends place) = ⊥
OfStatements Tells file (reaches place number other left) = ⊥
OfStatements Tells file (refused number why) = Tells (in_line file number (statement why))
OfStatements Tells file (taken.unended why) = Tells (unended file why)

abbrev pub OfLine : (Tells : Cause → Type 0) → lines.Told → Type 0
OfLine Tells (lines.comes came) = ⊥
OfLine Tells (lines.refused why) = Tells (target_line why)
OfLine Tells (lines.has_no_value why) = Tells (no_value why)

-- why a line ends the reading: what is told of it, or something that says nothing of it
abbrev pub IsCause : (Tells : Cause → Type 0) → code_cause.Cause → Type 0
IsCause Tells (cause.Line refusal) = lines_shown.IsRefused (OfLine Tells) refusal
IsCause Tells (cause.Text stop) = NoValue (λ why. Tells (no_value why)) stop
IsCause Tells (cause.Missing name) = Tells (missing_file name.items)
IsCause Tells (cause.TooDeep name) = Tells (too_deep name.items)
IsCause Tells cause.Loads = Tells loads_object

abbrev pub IsFault : (Tells : Refusal → Type 0) → (file : List ℕ) → code_fault.Fault → Type 0
IsFault Tells file (fault.Statements why) = taken_shown.IsRefused (OfStatements Tells file) why
IsFault Tells file (fault.At number why) = IsCause (λ told. Tells (in_line file number told)) why

-- the same of a reading
abbrev pub IsRefused : (Tells : Refusal → Type 0) → code_refused.Refused → Type 0
IsRefused Tells end.OutOfMemory = Unit {0}
IsRefused Tells (end.In file why) = IsFault Tells file.items why

-- this fault of the file, unless memory was refused
abbrev pub IsIn : (file : List ℕ) → code_fault.Fault → code_refused.Refused → Type 0
IsIn file why end.OutOfMemory = Unit {0}
IsIn file why (end.In name it) = (name.items ≡ file) × (it ≡ why)

-- the line's text has no value
abbrev pub HasNoValue : Answers → Variables → (text : List ℕ) → (file : List ℕ) → (line : ℕ) → Refusal → Type 0
HasNoValue w variables text file line why =
    (found : values.Fault) × ExpandsTo w variables text (fails found) × (why ≡ in_line file line (no_value found))

-- what the line is refused for that comes to this
abbrev pub RefusesLine : (file : List ℕ) → (line : ℕ) → lines.Told → Refusal → Type 0
RefusesLine file line (lines.comes came) why = ⊥
RefusesLine file line (lines.refused found) why = why ≡ in_line file line (target_line found)
RefusesLine file line (lines.has_no_value found) why = why ≡ in_line file line (no_value found)

-- the line comes to something that is refused
abbrev pub IsNoLine : Answers → Variables → (behind : Option (List ℕ)) → (text : List ℕ) → (file : List ℕ) → (line : ℕ) → Refusal → Type 0
IsNoLine w variables behind text file line why =
    (told : lines.Told) × lines.Comes w variables behind text told × RefusesLine file line told why

-- the line comes to this, of which what is kept was added
abbrev pub IsLine : Answers → (behind : Option (List ℕ)) → (text : List ℕ) → (file : List ℕ) → (line : ℕ) → (old new : Progress) → open_rule.Rule → Type 0
IsLine w behind text file line old new rule =
    (came : Came) × lines.Comes w (variables_in old.table) behind text (lines.comes came) × (new ≡ with_line file line came old) × (rule ≡ opened_by came)

-- the statements of a file end its reading so
abbrev pub EndsWith : (file : List ℕ) → taken.Outcome → Refusal → Type 0
EndsWith file (ends place) why = ⊥
EndsWith file (reaches place number other left) why = ⊥
EndsWith file (refused number found) why = why ≡ in_line file number (statement found)
EndsWith file (taken.unended found) why = why ≡ unended file found

abbrev pub ReadsTo : Answers → List Stated → taken.Place → (file : List ℕ) → Refusal → Type 0
ReadsTo w left place file why = (outcome : taken.Outcome) × Reads w left place outcome × EndsWith file outcome why
