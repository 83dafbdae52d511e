use Rattle.std.proofs.Common.{◌+◌, ◌-◌, ◌*◌, length, drop, map}
use Rattle.mk_statements.specs.Reading.{stated}
use Rattle.mk_gnu_eval.specs.Item.{Outcome}
use Rattle.mk_gnu_eval.specs.Reading.{begins, Each, Lines, Named}
use Rattle.mk_gnu_eval.specs.Shown.{here_of, progress_of}
use Rattle.mk_gnu_eval.specs.World.{World}
use Rattle.mk_gnu_eval.proofs.makefile.+reading.Given as goal

abbrev pub decreases-read_text : goal.decreases-read_text
decreases-read_text g l = 6 * l.levels + 5

abbrev pub decreases-read_lines : goal.decreases-read_lines
decreases-read_lines g l = 6 * l.levels + 4

abbrev pub decreases-take : goal.decreases-take
decreases-take g l = 6 * l.site.now.levels + 3

abbrev pub decreases-read_line : goal.decreases-read_line
decreases-read_line g l = 6 * l.site.now.levels + 2

abbrev pub decreases-read_each : goal.decreases-read_each
decreases-read_each g l = 6 * l.site.now.levels + 1

abbrev pub decreases-read_named : goal.decreases-read_named
decreases-read_named g l = 6 * l.site.now.levels

abbrev pub invariant-read_lines-loop-reading : goal.invariant-read_lines-loop-reading
invariant-read_lines-loop-reading g l = record {
  leads : (world : World) → g.O.Outside.allows l.outside world.answers → g.F.Files.allows l.files world.files → (outcome : Outcome)
      → Lines world (Named world l.levels) l.file (map stated (drop l.place l.lines)) (here_of l.reading l.progress) outcome
      → Lines world (Named world l.levels) l.file (map stated l.lines) (begins (progress_of l.initial.progress)) outcome;
  narrows : (world : World) → g.O.Outside.allows l.outside world.answers → g.O.Outside.allows l.initial.outside world.answers;
  narrows_files : (world : World) → g.F.Files.allows l.files world.files → g.F.Files.allows l.initial.files world.files;
}

abbrev pub decreases-read_lines-loop-reading : goal.decreases-read_lines-loop-reading
decreases-read_lines-loop-reading g l = length l.lines - l.place

abbrev pub invariant-read_each-loop-name : goal.invariant-read_each-loop-name
invariant-read_each-loop-name g l = record {
  leads : (world : World) → g.O.Outside.allows l.outside world.answers → g.F.Files.allows l.files world.files → (outcome : Outcome)
      → Each (Named world l.site.levels l.site.file.now l.site.line l.is_required) l.name-iterator (progress_of l.progress) outcome
      → Each (Named world l.site.levels l.site.file.now l.site.line l.is_required) l.names (progress_of l.initial.progress) outcome;
  narrows : (world : World) → g.O.Outside.allows l.outside world.answers → g.O.Outside.allows l.initial.outside world.answers;
  narrows_files : (world : World) → g.F.Files.allows l.files world.files → g.F.Files.allows l.initial.files world.files;
}
