use Rattle.std.proofs.Common.{length}
use Rattle.st_file.proofs.SideLemmas.{HasWalked}
use Rattle.st_file.proofs.side.read_batches.Given as goal

abbrev pub invariant-loop-rest : goal.invariant-loop-rest
invariant-loop-rest g l = HasWalked g.S.RecordSink.has_taken l.bytes l.form l.generation l.sink l.first l.rest

abbrev pub decreases-loop-rest : goal.decreases-loop-rest
decreases-loop-rest g l = length l.rest
