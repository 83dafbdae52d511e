-- Where a pair recovers a state that knows some name, reading it came to records.
use Rattle.std.proofs.Common.{◌<◌, ℕ, List, [], ◌∷◌, length, ap, inl, inr, arith}
use Rattle.std.specs.FinMap as map
use Rattle.std.specs.FinMap.{len-empty}
use Rattle.st_records.specs.declared.version.Form.{Form}
use Rattle.st_records.specs.declared.record.Record.{Record}
use Rattle.st_records.specs.declared.record.Entry.{Entry}
use Rattle.st_state.specs.State.{StateMap, replay}
use Rattle.st_state.proofs.StateLemmas.{by_bytes}
use Rattle.st_file.proofs.SideLemmas.{comes_of_held}
use Rattle.st_recovery.specs.Recovers.{WinsIn, RecoversIn, IsWholeIn, PairComesToRecordsIn}

some_held : (held : List Record) → 0 < map.len (replay map.empty held) → 0 < length held
some_held [] some = absurd (omega (arith, some, len-empty by_bytes Entry))
some_held (r ∷ held) some = omega arith

held_of : (newest : Form) (x other : List ℕ) (m : StateMap) (wins : WinsIn newest x other m) → 0 < map.len m → 0 < length wins.counts.held
held_of newest x other m wins some = some_held wins.counts.held (omega (arith, some, ap map.len wins.counts.state_is))

other_is_whole : (newest : Form) (x other : List ℕ) (m : StateMap) → WinsIn newest x other m → IsWholeIn newest other
other_is_whole newest x other m wins = elim wins.counts.over [
  | inl void ↦ inl void
  | inr less ↦ inr (less.0, less.1)
]

pub comes_of_state_in : (newest : Form) (a b : List ℕ) (m : StateMap) → RecoversIn newest a b m → 0 < map.len m → PairComesToRecordsIn newest a b
comes_of_state_in newest a b m (inl none) some = absurd (omega (arith, some, ap map.len none.2, len-empty by_bytes Entry))
comes_of_state_in newest a b m (inr (inl wins)) some =
    let c = wins.counts in
    inl (comes_of_held newest a wins.form c.is_read wins.generation c.held wins.end c.holds (held_of newest a b m wins some))
comes_of_state_in newest a b m (inr (inr wins)) some =
    let c = wins.counts in
    inr (other_is_whole newest b a m wins, comes_of_held newest b wins.form c.is_read wins.generation c.held wins.end c.holds (held_of newest b a m wins some))
