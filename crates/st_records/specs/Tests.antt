-- The tests of a record one by one, each as a value. The private functions compute these; `Limits` says what they mean.
use Rattle.std.specs.Prelude.{ℕ, ◌+◌, Bool, ◌||◌, ◌==◌, nat_lt, if◌then◌else◌, List, length, Option, Some, None}
use Rattle.std.specs.List.{list_any, flat_map}
use Rattle.st_records.specs.declared.version.Form.{Form}
use Rattle.st_records.specs.declared.version.Form.TheVariants as forms
use Rattle.st_records.specs.declared.limits.RecordFault.{RecordFault}
use Rattle.st_records.specs.declared.limits.RecordFault.TheVariants.{EmptyName, BadByte, TooLong, TooMany}
use Rattle.st_records.specs.declared.limits.TheConstants.{MAX_COMMAND_BYTES, MAX_COMMANDS, MAX_HIDDEN_NAMES, MAX_EXPLICIT_NAMES}
use Rattle.st_records.specs.declared.record.Explicit.{Explicit}
use Rattle.st_records.specs.declared.record.Explicit.TheVariants.{Unknown, Known, Marked}
use Rattle.st_records.specs.declared.record.Record.{Record}
use Rattle.st_records.specs.declared.record.Record.TheVariants as records
use Rattle.st_records.specs.Parts.{target_of, names_known, marks_known, commands_of, hidden_of, explicit_of}
use Rattle.st_records.specs.Encoding.{string}
use Rattle.st_records.specs.Limits.{max_name_bytes_in, max_record_bytes_in, counted_length_in}

-- a name passes a test: the target, a hidden name or an explicit one
abbrev pub any_name : (List ℕ → Bool) → Record → Bool
any_name test r = test (target_of r) || list_any test (hidden_of r) || list_any test (names_known (explicit_of r))

-- a byte stands in a string
abbrev pub has_byte : ℕ → List ℕ → Bool
has_byte byte bytes = list_any (λ b. b == byte) bytes

-- a name has no bytes
abbrev pub is_empty_name : List ℕ → Bool
is_empty_name name = length name == 0

-- a name holds a NUL or a newline
abbrev pub is_bad_name : List ℕ → Bool
is_bad_name name = has_byte 0 name || has_byte 10 name

-- a name is longer than its form allows
abbrev pub is_long_name : Form → List ℕ → Bool
is_long_name form name = nat_lt (max_name_bytes_in form) (length name)

-- a command holds a NUL
abbrev pub has_bad_command : Record → Bool
has_bad_command r = list_any (λ command. has_byte 0 command) (commands_of r)

-- a command is too long
abbrev pub has_long_command : Record → Bool
has_long_command r = list_any (λ command. nat_lt MAX_COMMAND_BYTES (length command)) (commands_of r)

-- the record is longer than its form allows
abbrev pub is_overlong : Form → Record → Bool
is_overlong form r = nat_lt (max_record_bytes_in form) (counted_length_in form r)

-- of a kept record these bytes: the count of its explicit names and the length of its marks are written where they are known
abbrev pub known_length : Form → Explicit → ℕ
known_length forms.Old explicit = 13
known_length forms.Plain Unknown = 13
known_length forms.Plain (Known names) = 17
known_length forms.Plain (Marked names marks) = 17
known_length forms.Marked Unknown = 13
known_length forms.Marked (Known names) = 17
known_length forms.Marked (Marked names marks) = 21

-- the bytes that count and are there whatever the fields hold: the kind, and the lengths and counts
abbrev pub fixed_length : Form → Record → ℕ
fixed_length form (records.Begun target) = 5
fixed_length forms.Old (records.Done target commands hidden explicit) = 13
fixed_length forms.Plain (records.Done target commands hidden explicit) = 17
fixed_length forms.Marked (records.Done target commands hidden explicit) = 22
fixed_length form (records.Failed target status) = 9
fixed_length form (records.Kept target known) = known_length form known.explicit

-- of a kept record's bytes beside its strings these: the count and the length where they are known, and what doesn't count
abbrev pub kept_length : Form → Explicit → ℕ
kept_length forms.Old explicit = 18
kept_length forms.Plain Unknown = 19
kept_length forms.Plain (Known names) = 23
kept_length forms.Plain (Marked names marks) = 23
kept_length forms.Marked Unknown = 19
kept_length forms.Marked (Known names) = 23
kept_length forms.Marked (Marked names marks) = 27

-- the bytes of a record beside those of its strings: kind, lengths and counts, phase and status
abbrev pub plain_length : Form → Record → ℕ
plain_length form (records.Begun target) = 5
plain_length forms.Old (records.Done target commands hidden explicit) = 13
plain_length forms.Plain (records.Done target commands hidden explicit) = 17
plain_length forms.Marked (records.Done target commands hidden explicit) = 22
plain_length form (records.Failed target status) = 9
plain_length form (records.Kept target known) = kept_length form known.explicit

-- the bytes of explicit names, those of their lengths among them, and of marks, as far as the form has a place for them
abbrev pub explicit_length : Form → Explicit → ℕ
explicit_length forms.Old explicit = 0
explicit_length forms.Plain explicit = length (flat_map string (names_known explicit))
explicit_length forms.Marked explicit = length (flat_map string (names_known explicit)) + length (marks_known explicit)

-- the bytes of the names and commands in a file, those of their lengths among them but for the target's
abbrev pub strings_length : Form → Record → ℕ
strings_length form r =
    length (target_of r) + length (flat_map string (commands_of r)) + length (flat_map string (hidden_of r))
    + explicit_length form (explicit_of r)

-- there are too many commands, hidden names or explicit ones
abbrev pub has_too_many : Record → Bool
has_too_many r =
    nat_lt MAX_COMMANDS (length (commands_of r))
    || (nat_lt MAX_HIDDEN_NAMES (length (hidden_of r)) || nat_lt MAX_EXPLICIT_NAMES (length (names_known (explicit_of r))))

-- the first fault, in the order in which the tests are made
abbrev pub fault_of : Form → Record → Option RecordFault
fault_of form r =
    if any_name is_empty_name r then Some EmptyName
    else if any_name is_bad_name r || has_bad_command r then Some BadByte
    else if any_name (is_long_name form) r || (has_long_command r || is_overlong form r) then Some TooLong
    else if has_too_many r then Some TooMany
    else None
