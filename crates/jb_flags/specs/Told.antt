-- What a recipe line is told of job slots in the wide profile, and what stands before its text. Each version of GNU make takes two open
-- descriptors, and none before 4.4 a FIFO; so a shell opens the FIFO as descriptors for a line that may call make. Any other line has one
-- slot: whatever it calls gets no words of more (GNU make manual, "How the MAKE Variable Works", "POSIX Jobserver Interaction").
use Rattle.std.specs.Prelude.{◌≡◌, ℕ, Bool, true, false, ◌&&◌, ◌||◌, List, [], ◌∷◌, ◌++◌, Option, Some, None, Result, codes, decimal, nat_eq, bytes_eq, if◌then◌else◌}
use Rattle.std.specs.List.{flat_map}
use Rattle.byte_strings.specs.Blanks.{words}
use Rattle.mk_recipe.specs.declared.line.Line.{Line}
use Rattle.bd_lists.specs.declared.recipe.Variable.{Variable}
use Rattle.bd_lists.specs.declared.exec.Ended.{Ended}
use Rattle.bd_lists.specs.declared.exec.ExecFault.{ExecFault}
use Rattle.jb_auth.specs.Auth.{Authority, Says, absent, disabled, fifo, descriptors, unreadable}
use Rattle.jb_flags.specs.declared.handing.Handed.{Handed}
use Rattle.jb_flags.specs.Handed.{slot_words, handed_variables}

-- a byte between single quotes; a quote itself stands behind a backslash outside of them (POSIX shell, "Single-Quotes")
abbrev pub shell_byte : ℕ → List ℕ
shell_byte b = if nat_eq b 39 then codes "'\\''" else b ∷ []

-- a text as one word of a shell
abbrev pub shell_word : List ℕ → List ℕ
shell_word text = codes "'" ++ (flat_map shell_byte text ++ codes "'")

-- the FIFO of a path opened as two descriptors for what stands behind, for reading and writing both: so it waits for nobody (POSIX shell,
-- "Open File Descriptors for Reading and Writing"). A shell need know descriptors of one digit alone; the numbers are own
abbrev pub opening : (path : List ℕ) → List ℕ
opening path = codes "exec 7<>" ++ (shell_word path ++ codes " 8>&7; ")

-- the words of job slots that name these, with so many recipes at once
abbrev pub opened_words : (workers : ℕ) → List ℕ
opened_words workers = codes " -j" ++ (decimal workers ++ codes " --jobserver-auth=7,8")

-- the name of a program by its path, where this is what stands behind the slashes so far
abbrev pub base_from : (base rest : List ℕ) → List ℕ
base_from base [] = base
base_from base (b ∷ rest) = base_from (if nat_eq b 47 then rest else base) rest

-- a shell by this name has the redirections of POSIX (own: those that makefiles name)
abbrev pub is_posix_shell : (name : List ℕ) → Bool
is_posix_shell name =
    bytes_eq name (codes "sh") || (bytes_eq name (codes "bash") || (bytes_eq name (codes "dash")
    || (bytes_eq name (codes "ksh") || (bytes_eq name (codes "zsh") || bytes_eq name (codes "ash")))))

-- the shell of these words opens descriptors so: without words it is the usual one
abbrev pub opens_by : List (List ℕ) → Bool
opens_by [] = true
opens_by (program ∷ arguments) = is_posix_shell (base_from program program)

-- the shell of this name does (POSIX make, "Macros": SHELL)
abbrev pub opens : (shell : List ℕ) → Bool
opens shell = opens_by (words shell)

-- the path of the FIFO that is opened for a line which may have that, by what its words say of a jobserver
abbrev pub pool_by : Authority → (may : Bool) → Option (List ℕ)
pool_by (fifo path) may = if may then Some path else None
pool_by absent may = None
pool_by disabled may = None
pool_by descriptors may = None
pool_by unreadable may = None

-- this is opened for a line that has these words
abbrev pub IsPool : (words : List ℕ) → (may : Bool) → Option (List ℕ) → Type 0
IsPool words may pool = (authority : Authority) × Says words authority × (pool ≡ pool_by authority may)

-- the words of job slots of a line, where it may have some, and this is opened for it
abbrev pub told_words : Handed → List Variable → (may : Bool) → (pool : Option (List ℕ)) → List ℕ
told_words handed env may (Some path) = handed.opened.items
told_words handed env may None = if may then slot_words handed env else handed.alone.items

-- the line as it is run, where this is opened for it
abbrev pub told_line : (pool : Option (List ℕ)) → Line → Line
told_line None line = line
told_line (Some path) line = record line { text = opening path ++ line.text }

-- the recipe's variables and behind them what makes below are told
abbrev pub told_variables : Handed → (words : List ℕ) → List Variable → List Variable
told_variables handed words env = env ++ handed_variables handed words

-- this is an answer to the line as it is told in a shell that opens descriptors so or doesn't
abbrev pub IsTold : (answers : List Variable → Line → Result Ended ExecFault → Type 0) → Handed → (does_open : Bool) → Line → List Variable →
    Result Ended ExecFault → Type 0
IsTold answers handed does_open line env answer =
    (pool : Option (List ℕ)) × IsPool (slot_words handed env) (line.is_always_run && does_open) pool
    × answers (told_variables handed (told_words handed env line.is_always_run pool) env) (told_line pool line) answer

-- where something is handed on it is an answer to the line so, whatever its shell is; else to the line alone
abbrev pub IsToldTo : (answers : List Variable → Line → Result Ended ExecFault → Type 0) → Option Handed → Line → List Variable →
    Result Ended ExecFault → Type 0
IsToldTo answers None line env answer = answers env line answer
IsToldTo answers (Some handed) line env answer = (does_open : Bool) × IsTold answers handed does_open line env answer
