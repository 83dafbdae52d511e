use Rattle.std.proofs.lemmas.Result.{on_ok_weaker}
use Rattle.st_file.proofs.SinkLemmas.{AddsRecords-apply}
use Rattle.st_file.proofs.sink.StateRecordSink.take.Goals as goal

pub returns : goal.returns
returns c = on_ok_weaker c.apply_owned.result (AddsRecords-apply c.args.self.now c.apply_owned.new.self c.args.event) c.apply_owned.ensures.ok
