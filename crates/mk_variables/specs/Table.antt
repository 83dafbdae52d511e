-- What the variables of a makefile are (GNU make manual, "How to Use Variables").
use Rattle.std.specs.Prelude.{ℕ, Bool, false, if◌then◌else◌, List, [], Option, Some, None, option_map, bytes_eq}
use Rattle.std.specs.Map.{lookup}
use Rattle.mk_functions.specs.Variables.{Variable, Variables}
use Rattle.mk_variables.specs.declared.entry.Sharing.{Sharing}

-- what is known of a name that has a variable: the variable, what was said last of its export, and whether it is hidden from recipes (GNU make manual,
-- "Suppressing Inheritance")
pub record Entry : Type 0 where
  pub variable : Variable
  pub sharing : Sharing
  pub is_private : Bool

-- what each name is; whether variables are exported of which nothing was said; and whether those of the environment count before those of makefiles
-- (GNU make manual, "Summary of Options", `-e`)
pub record Table : Type 0 where
  pub entry : (name : List ℕ) → Option Entry
  pub exports_all : Bool
  pub is_environment_first : Bool

-- the same, where the names that have a variable are listed, and so are finitely many
pub record Listed : Type 0 where
  pub entries : List (List ℕ × Entry)
  pub exports_all : Bool
  pub is_environment_first : Bool

abbrev pub entry_at : List (List ℕ × Entry) → (name : List ℕ) → Option Entry
entry_at entries name = lookup (bytes_eq name) entries

abbrev pub table_of : Listed → Table
table_of listed =
    record { entry = entry_at listed.entries; exports_all = listed.exports_all; is_environment_first = listed.is_environment_first }

-- no variables
abbrev pub none_listed : (is_environment_first : Bool) → Listed
none_listed is_first = record { entries = []; exports_all = false; is_environment_first = is_first }

-- what names stand for
abbrev pub variables_in : Table → Variables
variables_in table name = option_map (λ e. e.variable) (table.entry name)

abbrev pub is_private_at : Option Entry → Bool
is_private_at None = false
is_private_at (Some e) = e.is_private

abbrev pub changed_at : (entry : List ℕ → Option Entry) → (name : List ℕ) → Option Entry → (n : List ℕ) → Option Entry
changed_at entry name now n = if bytes_eq name n then now else entry n

-- the table in which one name has this in place of what it had
abbrev pub with_entry : Table → (name : List ℕ) → Option Entry → Table
with_entry table name now = record table { entry = changed_at table.entry name now }
