-- What a statement makes of the variables, as a relation (GNU make manual, "How make Reads a Makefile" and the chapters of each directive).
use Rattle.std.specs.Prelude.{◌≡◌, ℕ, Bool, true, false, List, [], ◌∷◌, Option, Some, None, Result, Ok, Err}
use Rattle.byte_strings.specs.Blanks.{trimmed}
use Rattle.mk_words.specs.Words.{words_of}
use Rattle.mk_assignments.specs.Reading.{Defined}
use Rattle.mk_assignments.specs.Line.{Said, defines, begins, undefines, exports, unexports}
use Rattle.mk_assignments.specs.declared.sign.Sign.{Sign}
use Rattle.mk_assignments.specs.declared.statement.Modifiers.{Modifiers}
use Rattle.mk_functions.specs.declared.variable.Flavor.TheVariants.{Simple}
use Rattle.mk_functions.specs.declared.variable.Origin.{Origin}
use Rattle.mk_functions.specs.declared.variable.Origin.TheVariants.{File, Override}
use Rattle.mk_functions.specs.Outcome.{Outcome, gives, fails, Fault}
use Rattle.mk_functions.specs.Values.{Answers}
use Rattle.mk_functions.specs.Expansion.{ExpandsTo}
use Rattle.mk_variables.specs.declared.entry.Sharing.{Sharing}
use Rattle.mk_variables.specs.declared.entry.Sharing.TheVariants.{Exported, Unexported}
use Rattle.mk_variables.specs.Table.{Entry, Table, variables_in, with_entry}
use Rattle.mk_variables.specs.Definition.{taken_by, IsValue, new_entry, defined, undefined}

-- why a statement ends the reading: an expansion has no value, or a name comes to nothing
pub data Refusal : Type 0 where
  has_fault : (fault : Fault) → Refusal
  has_no_name : Refusal

-- what a statement comes to: the variables behind it, or why there are none
abbrev pub Told : Type 0
Told = Result Table Refusal

abbrev pub name_given : (name : List ℕ) → Result (List ℕ) Refusal
name_given [] = Err has_no_name
name_given (b ∷ bs) = Ok (b ∷ bs)

-- the name that a text came to
abbrev pub name_in : Outcome → Result (List ℕ) Refusal
name_in (gives name) = name_given name
name_in (fails fault) = Err (has_fault fault)

-- the same behind `define` and `undefine`, which take it without the blanks round it
abbrev pub trimmed_name_in : Outcome → Result (List ℕ) Refusal
trimmed_name_in (gives name) = name_given (trimmed name)
trimmed_name_in (fails fault) = Err (has_fault fault)

-- `override` lifts a definition above the command line
abbrev pub origin_by : (is_overriding : Bool) → Origin
origin_by true = Override
origin_by false = File

-- the table behind a definition with this value
abbrev pub with_value : Table → Modifiers → Origin → (name : List ℕ) → Sign → (value : Outcome) → Told
with_value table modifiers origin name sign (gives value) =
    Ok (with_entry table name (Some (defined table.is_environment_first modifiers sign origin (table.entry name) value)))
with_value table modifiers origin name sign (fails fault) = Err (has_fault fault)

-- the table behind `undefine`
abbrev pub without : Table → Origin → (name : List ℕ) → Table
without table origin name = with_entry table name (undefined table.is_environment_first origin (table.entry name))

-- `export` and `unexport` define what isn't there, with no text
abbrev pub shared_as : Sharing → (there : Option Entry) → Entry
shared_as sharing None = record (new_entry (record { text = []; flavor = Simple; origin = File })) { sharing = sharing }
shared_as sharing (Some e) = record e { sharing = sharing }

abbrev pub all_shared_as : Sharing → (names : List (List ℕ)) → Table → Table
all_shared_as sharing [] table = table
all_shared_as sharing (name ∷ names) table = all_shared_as sharing names (with_entry table name (Some (shared_as sharing (table.entry name))))

abbrev pub shared_by : Sharing → Table → (names : Outcome) → Told
shared_by sharing table (gives names) = Ok (all_shared_as sharing (words_of names) table)
shared_by sharing table (fails fault) = Err (has_fault fault)

-- `export` alone is said of all variables of which nothing else is said, `unexport` alone of none of them
abbrev pub exports_all_by : Sharing → Bool
exports_all_by Exported = true
exports_all_by _ = false

module _ (w : Answers) (table : Table) where
  -- a definition of a name: its value is taken by what the name is so far
  abbrev pub Defines : Modifiers → Origin → Result (List ℕ) Refusal → Sign → (text : List ℕ) → Told → Type 0
  Defines modifiers origin (Err refusal) sign text told = told ≡ Err refusal
  Defines modifiers origin (Ok name) sign text told =
      (value : Outcome) × IsValue w (variables_in table) (taken_by sign (variables_in table name)) text value
      × (told ≡ with_value table modifiers origin name sign value)

  -- a definition whose name is what its text comes to
  abbrev pub DefinesNamed : Modifiers → Origin → Defined → Told → Type 0
  DefinesNamed modifiers origin d told =
      (name : Outcome) × ExpandsTo w (variables_in table) d.name name × Defines modifiers origin (name_in name) d.sign d.value told

  abbrev pub Undefines : Origin → Result (List ℕ) Refusal → Told → Type 0
  Undefines origin (Err refusal) told = told ≡ Err refusal
  Undefines origin (Ok name) told = told ≡ Ok (without table origin name)

  -- `undefine` of the name that a text comes to
  abbrev pub UndefinesNamed : Modifiers → (text : List ℕ) → Told → Type 0
  UndefinesNamed modifiers text told =
      (name : Outcome) × ExpandsTo w (variables_in table) text name × Undefines (origin_by modifiers.is_overriding) (trimmed_name_in name) told

  -- names are the words that the text comes to
  abbrev pub Shares : Sharing → (names : List ℕ) → Told → Type 0
  Shares sharing [] told = told ≡ Ok (record table { exports_all = exports_all_by sharing })
  Shares sharing (b ∷ bs) told = (names : Outcome) × ExpandsTo w (variables_in table) (b ∷ bs) names × (told ≡ shared_by sharing table names)

  -- what a statement makes of the table; the lines of a `define` are its text
  abbrev pub Takes : Said → (lines : List ℕ) → Told → Type 0
  Takes (defines modifiers d) lines told = DefinesNamed modifiers (origin_by modifiers.is_overriding) d told
  Takes (begins modifiers d) lines told =
      (name : Outcome) × ExpandsTo w (variables_in table) d.name name
      × Defines modifiers (origin_by modifiers.is_overriding) (trimmed_name_in name) d.sign lines told
  Takes (undefines modifiers text) lines told = UndefinesNamed modifiers text told
  Takes (exports names) lines told = Shares Exported names told
  Takes (unexports names) lines told = Shares Unexported names told
