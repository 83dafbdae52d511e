-- Commands with the sources that they name, as a compilation database has them (Clang, "JSON Compilation Database Format").
use Rattle.std.specs.Prelude.{◌==◌, ◌&&◌, ◌||◌, ℕ, Bool, true, false, List, [], ◌∷◌, codes, drop, length, filter, if◌then◌else◌, map as list_map}
use Rattle.std.specs.List.{flat_map, list_any, starts_with, ends_with}
use Rattle.std.specs.Bool.{nat_eq}
use Rattle.std.specs.FinMap as map
use Rattle.st_records.specs.Parts.{names_known}
use Rattle.st_records.specs.declared.record.Phase.{Phase}
use Rattle.st_records.specs.declared.record.Phase.TheVariants as phases
use Rattle.st_records.specs.declared.record.Entry.{Entry}
use Rattle.st_state.specs.State.{StateMap}
use Rattle.st_answers.specs.Answers.{made_of}
use Rattle.st_answers.specs.declared.compiling.Compilation.{Compilation}

-- a command that was run, a file that it compiled, and what it was run for
pub record Compiled : Type 0 where
  pub command : List ℕ
  pub file : List ℕ
  pub output : List ℕ

abbrev pub compiled : Compilation → Compiled
compiled c = record { command = c.command.now; file = c.file.now; output = c.output.now }

-- bytes between words of a command: blanks, newlines, and what means something to the shell (POSIX, 2.2 and 2.10.2)
abbrev pub parts_words : ℕ → Bool
parts_words byte = list_any (λ b. b == byte) (codes " \t\n;&|()<>'\"`")

-- a text is at its end, or a word ends in front of it
abbrev pub is_behind_word : List ℕ → Bool
is_behind_word [] = true
is_behind_word (byte ∷ rest) = parts_words byte

-- the name stands in front, and ends a word there
abbrev pub begins_with_word : List ℕ → List ℕ → Bool
begins_with_word name text = starts_with nat_eq text name && is_behind_word (drop (length name) text)

-- the name stands in a text as a word; in front, where a word may begin there
abbrev pub has_word : Bool → List ℕ → List ℕ → Bool
has_word may_begin name [] = false
has_word may_begin name (byte ∷ rest) =
    (may_begin && begins_with_word name (byte ∷ rest)) || has_word (parts_words byte) name rest

-- suffixes of what compilers take for a source (GCC manual, "Options Controlling the Kind of Output")
abbrev pub c_suffixes : List (List ℕ)
c_suffixes = codes ".c" ∷ codes ".i" ∷ codes ".cc" ∷ codes ".cp" ∷ codes ".cxx" ∷ codes ".cpp" ∷ codes ".c++" ∷ codes ".C" ∷ []

abbrev pub other_suffixes : List (List ℕ)
other_suffixes = codes ".CPP" ∷ codes ".ii" ∷ codes ".m" ∷ codes ".mm" ∷ codes ".M" ∷ codes ".s" ∷ codes ".S" ∷ codes ".sx" ∷ []

abbrev pub fortran_suffixes : List (List ℕ)
fortran_suffixes = codes ".f" ∷ codes ".for" ∷ codes ".F" ∷ codes ".f90" ∷ codes ".f95" ∷ codes ".f03" ∷ codes ".f08" ∷ codes ".F90" ∷ []

abbrev pub has_suffix : List (List ℕ) → List ℕ → Bool
has_suffix suffixes name = list_any (λ suffix. ends_with nat_eq name suffix) suffixes

abbrev pub is_source : List ℕ → Bool
is_source name = has_suffix c_suffixes name || (has_suffix other_suffixes name || has_suffix fortran_suffixes name)

-- a source that the command names
abbrev pub is_source_in : List ℕ → List ℕ → Bool
is_source_in command name = is_source name && has_word true name command

-- those of a target's prerequisites, first the explicit ones, that are sources which the command names
abbrev pub sources_in : List ℕ → Entry → List (List ℕ)
sources_in command entry = filter (is_source_in command) (made_of entry)

-- the first of these names, or another one
abbrev pub first_or : List ℕ → List (List ℕ) → List ℕ
first_or name [] = name
first_or name (n ∷ names) = n

-- a command that names no source stands for its first explicit prerequisite, or for the target, where all are taken
abbrev pub without_source : Bool → List ℕ → List ℕ × Entry → List Compiled
without_source all command e =
    if all then record { command = command; file = first_or e.0 (names_known e.1.explicit); output = e.0 } ∷ [] else []

-- a command with each of these files
abbrev pub compiled_from : List ℕ → List ℕ → List (List ℕ) → List Compiled
compiled_from command output files = list_map (λ file. record { command = command; file = file; output = output }) files

-- once for each source
abbrev pub with_sources : Bool → List ℕ → List ℕ × Entry → List (List ℕ) → List Compiled
with_sources all command e [] = without_source all command e
with_sources all command e (s ∷ ss) = compiled_from command e.0 (s ∷ ss)

abbrev pub compiled_by : Bool → List ℕ × Entry → List ℕ → List Compiled
compiled_by all e command = with_sources all command e (sources_in command e.1)

-- the commands of a finished target, in their order; what isn't finished has none
abbrev pub compiled_at : Bool → List ℕ × Entry → Phase → List Compiled
compiled_at all e phases.Begun = []
compiled_at all e phases.Done = flat_map (compiled_by all e) e.1.commands
compiled_at all e (phases.Failed status) = []

abbrev pub compiled_for : Bool → List ℕ × Entry → List Compiled
compiled_for all e = compiled_at all e e.1.phase

-- all targets, in byte order of their names
abbrev pub all_compiled : Bool → StateMap → List Compiled
all_compiled all m = flat_map (compiled_for all) (map.entries m)
