-- The crate's own values as the definitions see them.
use Rattle.std.specs.Prelude.{ℕ, Bool, List, Option, option_map, bytes_eq, Err}
use Rattle.indexmap.specs.IndexMap.{IndexMap, get_by}
use Rattle.mk_functions.specs.Variables.{Variables}
use Rattle.mk_functions.specs.Outcome.{fails}
use Rattle.mk_functions.specs.Values.{Answers}
use Rattle.mk_functions.specs.Shown.{fault_of}
use Rattle.mk_functions.specs.declared.fault.Stop as code_stop
use Rattle.mk_functions.specs.declared.fault.Stop.TheVariants as stop
use Rattle.mk_variables.specs.declared.entry.Entry as code_entry
use Rattle.mk_variables.specs.declared.exports.Passed as code_passed
use Rattle.mk_variables.specs.declared.fault.Refusal as code_refusal
use Rattle.mk_variables.specs.declared.fault.Refusal.TheVariants as refusal
use Rattle.mk_variables.specs.declared.value.Taken.{Taken}
use Rattle.mk_variables.specs.Table.{Entry}
use Rattle.mk_variables.specs.Definition.{IsValue}
use Rattle.mk_variables.specs.Exports.{HasNoValue, Passes}
use Rattle.mk_variables.specs.Statement.{Told, has_fault, has_no_name}

abbrev pub entry_of : code_entry.Entry → Entry
entry_of e =
    record { variable = record { text = e.text.items; flavor = e.flavor; origin = e.origin }; sharing = e.sharing; is_private = e.is_private }

abbrev pub shown_entry : List ℕ × code_entry.Entry → List ℕ × Entry
shown_entry e = (e.0, entry_of e.1)

-- what the map has for a name
abbrev pub entry_in : {S : Type 0} → IndexMap (List ℕ) code_entry.Entry S → (name : List ℕ) → Option Entry
entry_in entries name = option_map entry_of (get_by (bytes_eq name) entries)

-- why a definition has no value: its text has none, or something that says nothing of the text
abbrev pub IsNoValue : Answers → Variables → Taken → (text : List ℕ) → code_stop.Stop → Type 0
IsNoValue w variables taken text stop.OutOfMemory = Unit {0}
IsNoValue w variables taken text stop.TakesTooLong = Unit {0}
IsNoValue w variables taken text (stop.Fault fault) = IsValue w variables taken text (fails (fault_of fault))

-- why nothing is made of the variables: what is told of the statement, or something that says nothing of it
abbrev pub Refuses : (Tells : Told → Type 0) → code_refusal.Refusal → Type 0
Refuses Tells (refusal.Stop stop.OutOfMemory) = Unit {0}
Refuses Tells (refusal.Stop stop.TakesTooLong) = Unit {0}
Refuses Tells (refusal.Stop (stop.Fault fault)) = Tells (Err (has_fault (fault_of fault)))
Refuses Tells refusal.NoName = Tells (Err has_no_name)

-- memory was refused
abbrev pub IsForMemory : code_refusal.Refusal → Type 0
IsForMemory (refusal.Stop stop.OutOfMemory) = Unit {0}
IsForMemory other = ⊥

abbrev pub shown_passed : code_passed.Passed → List ℕ × List ℕ
shown_passed p = (p.name.now, p.value.items)

-- why the value isn't known with which a variable reaches recipes
abbrev pub IsNotPassed : Answers → Variables → (exports_all : Bool) → (name : List ℕ) → Entry → code_stop.Stop → Type 0
IsNotPassed w variables all name e stop.OutOfMemory = Unit {0}
IsNotPassed w variables all name e stop.TakesTooLong = Unit {0}
IsNotPassed w variables all name e (stop.Fault fault) = HasNoValue w variables all name e (fault_of fault)

abbrev pub PassesNone : Answers → Variables → (exports_all : Bool) → List (List ℕ × Entry) → code_stop.Stop → Type 0
PassesNone w variables all es stop.OutOfMemory = Unit {0}
PassesNone w variables all es stop.TakesTooLong = Unit {0}
PassesNone w variables all es (stop.Fault fault) = Passes w variables all es (Err (fault_of fault))
