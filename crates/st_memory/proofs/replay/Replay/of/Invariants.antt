use Rattle.std.proofs.Common.{◌≡◌, length, drop}
use Rattle.st_memory.specs.Memory.{blank, made, bytes_written, side_of, replay}
use Rattle.st_memory.specs.PowerCut.{contents_of, replay_contents}
use Rattle.st_memory.specs.Replay.{replay_view}
use Rattle.st_memory.proofs.replay.Replay.of.Given as goal

abbrev pub invariant-loop-call : goal.invariant-loop-call
invariant-loop-call l = record {
  fits : bytes_written (drop l.call-index l.calls) ≡ length l.rest;
  same : replay_contents l.side (replay_view l.replay) (made (drop l.call-index l.calls) l.rest) ≡ contents_of (side_of l.side (replay blank (made l.calls l.written)));
}
