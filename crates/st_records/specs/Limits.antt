-- Which records may stand in a state file. The limits are this project's own.
use Rattle.std.specs.Prelude.{◌≡◌, ℕ, ◌-◌, ◌<◌, ◌≤◌, ◌⊎◌, List, [], length, Contains, Any}
use Rattle.st_records.specs.declared.version.Version.{Version}
use Rattle.st_records.specs.declared.version.Form.{Form}
use Rattle.st_records.specs.declared.version.Form.TheVariants as forms
use Rattle.st_records.specs.declared.limits.RecordFault.{RecordFault}
use Rattle.st_records.specs.declared.limits.RecordFault.TheVariants.{EmptyName, BadByte, TooLong, TooMany}
use Rattle.st_records.specs.declared.limits.TheConstants.{MAX_NAME_BYTES, MAX_NAME_BYTES_IN_ONE, MAX_COMMAND_BYTES, MAX_RECORD_BYTES, MAX_RECORD_BYTES_IN_ONE, MAX_COMMANDS, MAX_HIDDEN_NAMES, MAX_EXPLICIT_NAMES}
use Rattle.st_records.specs.declared.record.Explicit.TheVariants.{Unknown}
use Rattle.st_records.specs.declared.record.Record.{Record}
use Rattle.st_records.specs.declared.record.Record.TheVariants as records
use Rattle.st_records.specs.Forms.{form_of}
use Rattle.st_records.specs.Parts.{names_of, names_known, commands_of, hidden_of, explicit_of, status_of, IsNamed, IsMarked, IsUnmarked}
use Rattle.st_records.specs.Encoding.{encoding_in}

-- the bytes that a name may have
abbrev pub max_name_bytes_in : Form → ℕ
max_name_bytes_in forms.Old = MAX_NAME_BYTES_IN_ONE
max_name_bytes_in forms.Plain = MAX_NAME_BYTES
max_name_bytes_in forms.Marked = MAX_NAME_BYTES

-- the bytes that a record may have
abbrev pub max_record_bytes_in : Form → ℕ
max_record_bytes_in forms.Old = MAX_RECORD_BYTES_IN_ONE
max_record_bytes_in forms.Plain = MAX_RECORD_BYTES
max_record_bytes_in forms.Marked = MAX_RECORD_BYTES

-- the bytes of a record that do not count for its limit: those of a kept record's phase and status, and behind version 1 the
-- one that says which of its explicit names and marks are known
abbrev pub uncounted : Form → Record → ℕ
uncounted form (records.Begun target) = 0
uncounted form (records.Done target commands hidden explicit) = 0
uncounted form (records.Failed target status) = 0
uncounted forms.Old (records.Kept target known) = 5
uncounted forms.Plain (records.Kept target known) = 6
uncounted forms.Marked (records.Kept target known) = 6

-- the bytes of a record that count for its limit, marks among them; a done record with unknown names counts as one with none
abbrev pub counted_length_in : Form → Record → ℕ
counted_length_in form r = length (encoding_in form r) - uncounted form r

-- a name is empty
abbrev pub HasEmptyName : Record → Type 0
HasEmptyName r = Any (λ name. name ≡ []) (names_of r)

-- a name holds a NUL or a newline, or a command a NUL
abbrev pub HasBadByte : Record → Type 0
HasBadByte r = Any (λ name. Contains name 0 ⊎ Contains name 10) (names_of r) ⊎ Any (λ command. Contains command 0) (commands_of r)

-- a name, a command or the record itself is too long
abbrev pub IsTooLong : Form → Record → Type 0
IsTooLong form r =
    Any (λ name. max_name_bytes_in form < length name) (names_of r)
    ⊎ Any (λ command. MAX_COMMAND_BYTES < length command) (commands_of r)
    ⊎ (max_record_bytes_in form < counted_length_in form r)

-- there are too many commands, hidden names or explicit names
abbrev pub HasTooMany : Record → Type 0
HasTooMany r =
    (MAX_COMMANDS < length (commands_of r))
    ⊎ (MAX_HIDDEN_NAMES < length (hidden_of r))
    ⊎ (MAX_EXPLICIT_NAMES < length (names_known (explicit_of r)))

-- a record breaks a limit
abbrev pub Breaks : Form → Record → RecordFault → Type 0
Breaks form r EmptyName = HasEmptyName r
Breaks form r BadByte = HasBadByte r
Breaks form r TooLong = IsTooLong form r
Breaks form r TooMany = HasTooMany r

-- the order of the limits
abbrev pub rank : RecordFault → ℕ
rank EmptyName = 1
rank BadByte = 2
rank TooLong = 3
rank TooMany = 4

-- a record breaks no limit
abbrev pub IsWithinIn : Form → Record → Type 0
IsWithinIn form r = (fault : RecordFault) → Breaks form r fault → ⊥

-- of the limits that a record breaks this is the first
pub record IsFirstFaultIn (form : Form) (r : Record) (fault : RecordFault) : Type 0 where
  pub broken : Breaks form r fault
  pub least : (other : RecordFault) → Breaks form r other → rank fault ≤ rank other

-- what a record says of its explicit names is what its form can say: in version 1 nothing, in version 2 those of each done,
-- in version 4 with their marks
abbrev pub SaysExplicitIn : Form → Record → Type 0
SaysExplicitIn forms.Old r = explicit_of r ≡ Unknown
SaysExplicitIn forms.Plain (records.Begun target) = Unit {0}
SaysExplicitIn forms.Plain (records.Done target commands hidden explicit) = IsNamed explicit
SaysExplicitIn forms.Plain (records.Failed target status) = Unit {0}
SaysExplicitIn forms.Plain (records.Kept target known) = IsUnmarked known.explicit
SaysExplicitIn forms.Marked (records.Begun target) = Unit {0}
SaysExplicitIn forms.Marked (records.Done target commands hidden explicit) = IsMarked explicit
SaysExplicitIn forms.Marked (records.Failed target status) = Unit {0}
SaysExplicitIn forms.Marked (records.Kept target known) = Unit {0}

-- a record that may stand in a file whose records have this form
pub record IsGoodIn (form : Form) (r : Record) : Type 0 where
  pub within : IsWithinIn form r
  pub status : status_of r ≤ 256
  pub explicit : SaysExplicitIn form r

-- a good record and its bytes
pub record EncodesIn (form : Form) (r : Record) (bytes : List ℕ) : Type 0 where
  pub good : IsGoodIn form r
  pub bytes_are : bytes ≡ encoding_in form r

-- ---- in a file of some version

abbrev pub max_name_bytes : Version → ℕ
max_name_bytes version = max_name_bytes_in (form_of version)

abbrev pub max_record_bytes : Version → ℕ
max_record_bytes version = max_record_bytes_in (form_of version)

abbrev pub counted_length : Version → Record → ℕ
counted_length version = counted_length_in (form_of version)

abbrev pub IsWithin : Version → Record → Type 0
IsWithin version = IsWithinIn (form_of version)

abbrev pub IsFirstFault : Version → Record → RecordFault → Type 0
IsFirstFault version = IsFirstFaultIn (form_of version)

abbrev pub SaysExplicit : Version → Record → Type 0
SaysExplicit version = SaysExplicitIn (form_of version)

-- a record that may stand in a state file of this version
abbrev pub IsGood : Version → Record → Type 0
IsGood version = IsGoodIn (form_of version)

-- a good record and its bytes
abbrev pub Encodes : Version → Record → List ℕ → Type 0
Encodes version = EncodesIn (form_of version)
