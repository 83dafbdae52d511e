-- What clauses see of a `Replay`.
use Rattle.st_memory.specs.declared.replay.Replay.{Replay}
use Rattle.st_memory.specs.PowerCut.{Contents}

abbrev pub replay_view : Replay → Contents
replay_view replay = record { bytes = replay.bytes.items; synced = replay.synced.items; ranges = replay.ranges.items }
