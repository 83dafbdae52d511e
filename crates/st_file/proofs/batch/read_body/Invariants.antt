use Rattle.st_file.proofs.BatchLemmas.{HandsOn}
use Rattle.st_file.proofs.batch.read_body.Given as goal

abbrev pub invariant-loop : goal.invariant-loop
invariant-loop g l = HandsOn l.form g.S.RecordSink.has_taken l.first l.body l.fn.sink l.sink l.counter l.rest
