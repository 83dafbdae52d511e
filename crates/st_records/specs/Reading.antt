-- Reading from the left: a value and the bytes after it, or the first fault that is met. The private readers compute these
-- functions; of public contracts `Gives` alone is a part.
use Rattle.std.specs.Prelude.{◌≡◌, ℕ, zero, suc, Bool, List, [], ◌∷◌, length, take, drop, Option, Some, None, Result, Ok, Err, nat_lt, ◌==◌, if◌then◌else◌}
use Rattle.std.specs.Int.{Width, w32, byte_len, from_le_bytes}
use Rattle.st_records.specs.declared.limits.RecordFault.{RecordFault}
use Rattle.st_records.specs.declared.fault.DecodeFault.{DecodeFault}
use Rattle.st_records.specs.declared.fault.DecodeFault.TheVariants.{OutOfMemory, Short, BadKind, Check}
use Rattle.st_records.specs.declared.record.Phase.{Phase}
use Rattle.st_records.specs.declared.record.Phase.TheVariants as phases
use Rattle.st_records.specs.declared.record.Entry.{Entry}
use Rattle.st_records.specs.declared.record.Record.{Record}
use Rattle.st_records.specs.declared.record.Record.TheVariants as records
use Rattle.st_records.specs.declared.version.Form.{Form}
use Rattle.st_records.specs.declared.version.Form.TheVariants as forms
use Rattle.st_records.specs.declared.record.Explicit.{Explicit}
use Rattle.st_records.specs.declared.record.Explicit.TheVariants.{Unknown, Known, Marked}
use Rattle.st_records.specs.Tests.{fault_of}

infixl 10 ◌>>=◌
abbrev pub ◌>>=◌ : {A B : Type 0} → Result A DecodeFault → (A → Result B DecodeFault) → Result B DecodeFault
(Ok x) >>= f = f x
(Err e) >>= f = Err e

-- a call answered this fault where reading meets it, or wanted memory, of which reading takes none
abbrev pub Fails : {Y : Type 0} → DecodeFault → Result Y DecodeFault → Type 0
Fails OutOfMemory read = Unit {0}
Fails Short read = read ≡ Err Short
Fails BadKind read = read ≡ Err BadKind
Fails (Check fault) read = read ≡ Err (Check fault)

-- what a call answered, seen by view, is what reading gives, unless memory ran out
abbrev pub Gives : {X Y : Type 0} → (X → Y) → Result X DecodeFault → Result Y DecodeFault → Type 0
Gives view (Ok x) read = read ≡ Ok (view x)
Gives view (Err e) read = Fails e read

-- what takes a value from the front of some bytes
abbrev pub Reader : Type 0 → Type 0
Reader A = List ℕ → Result (A × List ℕ) DecodeFault

-- one value, then another
abbrev pub then_at : {A B : Type 0} → Reader A → Reader B → Reader (A × B)
then_at a b bytes = a bytes >>= λ x. (b x.1 >>= λ y. Ok ((x.0, y.0), y.1))

-- a value made of another
abbrev pub made_at : {A B : Type 0} → (A → B) → Reader A → Reader B
made_at f a bytes = a bytes >>= λ x. Ok (f x.0, x.1)

-- a value that passes a test
abbrev pub tested_at : {A : Type 0} → (A → Bool) → Reader A → Reader A
tested_at test a bytes = a bytes >>= λ x. (if test x.0 then Ok x else Err BadKind)

-- a number of some width, the lowest byte first
abbrev pub uint_at : Width → Reader ℕ
uint_at w bytes = if nat_lt (length bytes) (byte_len w) then Err Short else Ok (from_le_bytes w (take (byte_len w) bytes), drop (byte_len w) bytes)

-- a number of four bytes
abbrev pub number_at : Reader ℕ
number_at = uint_at w32

-- so many bytes
abbrev pub bytes_at : ℕ → Reader (List ℕ)
bytes_at n bytes = if nat_lt (length bytes) n then Err Short else Ok (take n bytes, drop n bytes)

-- a name or a command
unfoldable pub string_at : Reader (List ℕ)
string_at bytes = number_at bytes >>= λ n. bytes_at n.0 n.1

-- so many strings
unfoldable pub items_at : ℕ → Reader (List (List ℕ))
items_at zero bytes = Ok ([], bytes)
items_at (suc n) bytes = string_at bytes >>= λ first. (items_at n first.1 >>= λ others. Ok (first.0 ∷ others.0, others.1))

-- commands or hidden names
unfoldable pub strings_at : Reader (List (List ℕ))
strings_at bytes = number_at bytes >>= λ n. items_at n.0 n.1

-- a listed status
unfoldable pub status_at : Reader ℕ
status_at = tested_at (λ n. nat_lt n 257) number_at

-- the status of what did not fail
unfoldable pub no_status_at : Reader ℕ
no_status_at = tested_at (λ n. n == 0) number_at

-- a phase and its status
unfoldable pub phase_at : Reader Phase
phase_at [] = Err Short
phase_at (zero ∷ rest) = Err BadKind
phase_at (suc zero ∷ rest) = made_at (λ _. phases.Begun) no_status_at rest
phase_at (suc (suc zero) ∷ rest) = made_at (λ _. phases.Done) no_status_at rest
phase_at (suc (suc (suc zero)) ∷ rest) = made_at phases.Failed status_at rest
phase_at (suc (suc (suc (suc b))) ∷ rest) = Err BadKind

-- explicit names and their marks
abbrev pub marked_at : Reader Explicit
marked_at = made_at (λ x. Marked x.0 x.1) (then_at strings_at string_at)

-- what a done record says of its explicit names
unfoldable pub done_explicit_at : Form → Reader Explicit
done_explicit_at forms.Old bytes = Ok (Unknown, bytes)
done_explicit_at forms.Plain bytes = made_at Known strings_at bytes
done_explicit_at forms.Marked [] = Err Short
done_explicit_at forms.Marked (zero ∷ rest) = Err BadKind
done_explicit_at forms.Marked (suc zero ∷ rest) = Err BadKind
done_explicit_at forms.Marked (suc (suc zero) ∷ rest) = marked_at rest
done_explicit_at forms.Marked (suc (suc (suc b)) ∷ rest) = Err BadKind

-- what a kept record says of them
unfoldable pub kept_explicit_at : Form → Reader Explicit
kept_explicit_at forms.Old bytes = Ok (Unknown, bytes)
kept_explicit_at forms.Plain [] = Err Short
kept_explicit_at forms.Plain (zero ∷ rest) = Ok (Unknown, rest)
kept_explicit_at forms.Plain (suc zero ∷ rest) = made_at Known strings_at rest
kept_explicit_at forms.Plain (suc (suc b) ∷ rest) = Err BadKind
kept_explicit_at forms.Marked [] = Err Short
kept_explicit_at forms.Marked (zero ∷ rest) = Ok (Unknown, rest)
kept_explicit_at forms.Marked (suc zero ∷ rest) = made_at Known strings_at rest
kept_explicit_at forms.Marked (suc (suc zero) ∷ rest) = marked_at rest
kept_explicit_at forms.Marked (suc (suc (suc b)) ∷ rest) = Err BadKind

-- commands, hidden names, and what comes after them
abbrev pub lists_at : Reader Explicit → Reader (List (List ℕ) × (List (List ℕ) × Explicit))
lists_at last = then_at strings_at (then_at strings_at last)

-- what the state knows of a target
unfoldable pub entry_at : Form → Reader Entry
entry_at form =
    made_at (λ x. record { phase = x.0; commands = x.1.0; hidden = x.1.1.0; explicit = x.1.1.1 })
    (then_at phase_at (lists_at (kept_explicit_at form)))

-- a record, whether good or not
unfoldable pub record_at : Form → Reader Record
record_at form [] = Err Short
record_at form (zero ∷ rest) = Err BadKind
record_at form (suc zero ∷ rest) = made_at records.Begun string_at rest
record_at form (suc (suc zero) ∷ rest) =
    made_at (λ x. records.Done x.0 x.1.0 x.1.1.0 x.1.1.1) (then_at string_at (lists_at (done_explicit_at form))) rest
record_at form (suc (suc (suc zero)) ∷ rest) = made_at (λ x. records.Failed x.0 x.1) (then_at string_at status_at) rest
record_at form (suc (suc (suc (suc zero))) ∷ rest) = made_at (λ x. records.Kept x.0 x.1) (then_at string_at (entry_at form)) rest
record_at form (suc (suc (suc (suc (suc b)))) ∷ rest) = Err BadKind

-- the target of a record of a listed kind
unfoldable pub target_at : Reader (List ℕ)
target_at [] = Err Short
target_at (zero ∷ rest) = Err BadKind
target_at (suc zero ∷ rest) = string_at rest
target_at (suc (suc zero) ∷ rest) = string_at rest
target_at (suc (suc (suc zero)) ∷ rest) = string_at rest
target_at (suc (suc (suc (suc zero))) ∷ rest) = string_at rest
target_at (suc (suc (suc (suc (suc b)))) ∷ rest) = Err BadKind

-- a value that has no fault
abbrev pub judged : Option RecordFault → Record × List ℕ → Result (Record × List ℕ) DecodeFault
judged None x = Ok x
judged (Some fault) x = Err (Check fault)

-- a good record: the check comes last
unfoldable pub good_at : Form → Reader Record
good_at form bytes = record_at form bytes >>= λ x. judged (fault_of form x.0) x
