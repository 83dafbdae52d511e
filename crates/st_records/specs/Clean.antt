-- Strings that could be names: a record of such strings alone keeps the limits of each of them.
use Rattle.std.specs.Prelude.{◌≡◌, ℕ, Bool, false, ◌||◌, List}
use Rattle.std.specs.List.{list_any}
use Rattle.st_records.specs.declared.version.Form.{Form}
use Rattle.st_records.specs.declared.record.Entry.{Entry}
use Rattle.st_records.specs.declared.record.Record.{Record}
use Rattle.st_records.specs.Parts.{target_of, names_known, commands_of, hidden_of, explicit_of}
use Rattle.st_records.specs.Tests.{is_empty_name, is_bad_name, is_long_name}

-- it could not be a name
abbrev pub is_unclean : Form → List ℕ → Bool
is_unclean form string = is_empty_name string || (is_bad_name string || is_long_name form string)

abbrev pub AreClean : Form → List (List ℕ) → Type 0
AreClean form strings = list_any (is_unclean form) strings ≡ false

abbrev pub IsCleanEntry : Form → Entry → Type 0
IsCleanEntry form e = AreClean form e.commands × AreClean form e.hidden × AreClean form (names_known e.explicit)

abbrev pub IsClean : Form → Record → Type 0
IsClean form r =
    (is_unclean form (target_of r) ≡ false)
    × AreClean form (commands_of r) × AreClean form (hidden_of r) × AreClean form (names_known (explicit_of r))
