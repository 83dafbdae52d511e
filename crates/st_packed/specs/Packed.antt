-- Lists of strings that lie one behind the other in one text: where each of them lies, and which still count.
use Rattle.std.specs.Prelude.{ℕ, zero, suc, ◌+◌, ◌≤◌, List, [], ◌∷◌, length, take, drop}
use Rattle.byte_strings.specs.Texts.{AreTexts, size_of, behind_first}
use Rattle.st_records.specs.declared.record.Explicit.{Explicit}
use Rattle.st_records.specs.declared.record.Explicit.TheVariants as explicits
use Rattle.st_records.specs.declared.record.Phase.{Phase}
use Rattle.st_records.specs.declared.record.Phase.TheVariants as phases
use Rattle.st_packed.specs.declared.packed.Counted.{Counted}
use Rattle.st_packed.specs.declared.packed.Counted.TheVariants.{All, Marked, Unnamed, HiddenAlone}
use Rattle.st_packed.specs.declared.packed.Standing.{Standing}
use Rattle.st_packed.specs.declared.packed.Standing.TheVariants as standings

-- the phase, and which lists count
abbrev pub phase_in : Standing → Phase
phase_in (standings.Begun counted) = phases.Begun
phase_in (standings.Done counted) = phases.Done
phase_in (standings.Failed counted status) = phases.Failed status

abbrev pub counted_in : Standing → Counted
counted_in (standings.Begun counted) = counted
counted_in (standings.Done counted) = counted
counted_in (standings.Failed counted status) = counted

-- how many bytes so many strings take that lie at the front of these, each behind its length
abbrev pub texts_size : (count : ℕ) (bytes : List ℕ) → ℕ
texts_size zero bytes = 0
texts_size (suc count) bytes = 4 + (size_of bytes + texts_size count (behind_first bytes))

-- the text of marks, which stands in front of the commands
abbrev pub marks_in : List (List ℕ) → List ℕ
marks_in [] = []
marks_in (marks ∷ commands) = marks

-- the commands that count
abbrev pub commands_in : Counted → (front : List (List ℕ)) → List (List ℕ)
commands_in All front = front
commands_in Marked front = drop 1 front
commands_in Unnamed front = front
commands_in HiddenAlone front = []

-- what is said of the explicit names
abbrev pub explicit_in : Counted → (front names : List (List ℕ)) → Explicit
explicit_in All front names = explicits.Known names
explicit_in Marked front names = explicits.Marked names (marks_in front)
explicit_in Unnamed front names = explicits.Unknown
explicit_in HiddenAlone front names = explicits.Unknown

-- so many commands have the first bytes, so many hidden names the next ones, and so many explicit names the last
pub record AreLists (commands hidden explicit command_bytes hidden_bytes : ℕ) (bytes : List ℕ) : Type 0 where
  pub commands_fit : command_bytes ≤ length bytes
  pub hidden_fit : hidden_bytes ≤ length (drop command_bytes bytes)
  pub commands_lie : AreTexts commands (take command_bytes bytes)
  pub hidden_lie : AreTexts hidden (take hidden_bytes (drop command_bytes bytes))
  pub explicit_lie : AreTexts explicit (drop hidden_bytes (drop command_bytes bytes))
