-- A batch that stands by: the state before it, and its records.
use Rattle.std.specs.Prelude.{List}
use Rattle.st_state.specs.State.{StateMap, by_name}
use Rattle.st_records.specs.declared.record.Record.{Record}
use Rattle.st_state.specs.declared.staged.Staged.{Staged}

-- the state to which the batch was staged
abbrev pub staged_state : Staged → StateMap
staged_state s = by_name (λ k. k) s.entries.entries

-- the records of the batch, in their order
abbrev pub staged_records : Staged → List Record
staged_records s = s.events.items
