use Rattle.std.proofs.Common.{◌≡◌, ◌++◌, drop}
use Rattle.std.specs.List.{flat_map}
use Rattle.mk_levels.specs.Told.{line_of}
use Rattle.mk_levels.proofs.telling.told_known.Given as goal

abbrev pub invariant-loop-note : goal.invariant-loop-note
invariant-loop-note l = l.text.items ++ flat_map (line_of l.levels) (drop l.note-index l.notes) ≡ flat_map (line_of l.levels) l.notes
