-- The targets of a state, and what is told of one.
use Rattle.std.specs.Prelude.{ℕ, Bool, List, [], ◌++◌, Option, None, Some, codes, is_some, map as list_map}
use Rattle.std.specs.List.{flat_map}
use Rattle.std.specs.FinMap as map
use Rattle.st_records.specs.Parts.{names_known}
use Rattle.st_records.specs.declared.record.Phase.{Phase}
use Rattle.st_records.specs.declared.record.Phase.TheVariants as phases
use Rattle.st_records.specs.declared.record.Entry.{Entry}
use Rattle.st_state.specs.State.{StateMap, known_hidden}
use Rattle.st_answers.specs.Lines.{lines, row}

-- how far the recipe of a target came, in a word
abbrev pub phase_word : Phase → List ℕ
phase_word phases.Begun = codes "begun"
phase_word phases.Done = codes "done"
phase_word (phases.Failed status) = codes "failed"

-- a name with how far its recipe came
abbrev pub target_row : List ℕ × Entry → List ℕ
target_row e = row (phase_word e.1.phase) e.0

-- the names of the targets of a state, in byte order (own)
abbrev pub target_names : StateMap → List (List ℕ)
target_names m = list_map (λ e. e.0) (map.entries m)

-- each target of a state, in byte order of the names (own)
abbrev pub targets_text : StateMap → List ℕ
targets_text m = flat_map target_row (map.entries m)

-- the state knows a target of this name
abbrev pub is_target_of : StateMap → List ℕ → Bool
is_target_of m name = is_some (map.get m name)

abbrev pub commands_in : Option Entry → List (List ℕ)
commands_in None = []
commands_in (Some entry) = entry.commands

-- the commands that are recorded of a target, in the order in which they were run: none of what is no target
abbrev pub recorded_commands : StateMap → List ℕ → List (List ℕ)
recorded_commands m name = commands_in (map.get m name)

-- each of them as a line; one of several lines is as many
abbrev pub commands_text : StateMap → List ℕ → List ℕ
commands_text m name = lines (recorded_commands m name)

-- the hidden prerequisites of a target, as last known, a line each
abbrev pub hidden_text : StateMap → List ℕ → List ℕ
hidden_text m name = lines (known_hidden m name)

-- what a target was made of: the prerequisites that its makefile named, and then the hidden ones
abbrev pub made_of : Entry → List (List ℕ)
made_of entry = names_known entry.explicit ++ entry.hidden
