use Rattle.std.proofs.Common.{◌≡◌, drop}
use Rattle.jb_marks.specs.declared.sights.Sight.TheVariants.{NoFile}
use Rattle.jb_marks.specs.Memory.{sight_in}
use Rattle.jb_marks.proofs.memory.sight_in.Given as goal

abbrev pub invariant-loop-place : goal.invariant-loop-place
invariant-loop-place l = sight_in l.sight (drop l.place-index l.placed) l.name ≡ sight_in NoFile l.placed l.name
