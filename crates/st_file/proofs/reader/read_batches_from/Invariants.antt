use Rattle.std.proofs.Common.{◌≡◌, ◌-◌}
use Rattle.st_file.specs.Sink.{HasTakenGoodIn}
use Rattle.st_file.specs.Window.{IsSound}
use Rattle.st_file.proofs.WindowLemmas.{GoesOn}
use Rattle.st_file.proofs.reader.read_batches_from.Given as goal

abbrev pub invariant-loop-window : goal.invariant-loop-window
invariant-loop-window g l = record {
  sound : IsSound l.window;
  side : l.window.side ≡ l.fn.window.side;
  faults : g.D.Disk.faults l.disk ≡ g.D.Disk.faults l.fn.disk;
  good : HasTakenGoodIn g.S.RecordSink.has_taken l.form l.sink;
  seen : g.D.Disk.honest → g.D.Disk.seen l.disk ≡ g.D.Disk.seen l.fn.disk;
  moments : g.D.Disk.honest → g.D.Disk.moments l.disk ≡ g.D.Disk.moments l.fn.disk;
  read : g.D.Disk.honest → GoesOn g.S.RecordSink.has_taken (g.D.Disk.seen l.fn.disk l.fn.window.side) l.form l.generation l.sink l.first l.window;
}

abbrev pub decreases-loop-window : goal.decreases-loop-window
decreases-loop-window g l = l.window.len - l.window.place
