use Rattle.std.proofs.Common.{◌≡◌, drop}
use Rattle.st_state.specs.State.{replay}
use Rattle.dmk_levels.proofs.knowing.with_records.Given as goal

abbrev pub invariant-loop-note : goal.invariant-loop-note
invariant-loop-note l = replay l.state (drop l.note-index l.notes) ≡ replay l.fn.state l.notes
