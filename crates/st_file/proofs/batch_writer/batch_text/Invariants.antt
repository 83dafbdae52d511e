use Rattle.std.proofs.Common.{◌≡◌, ◌++◌, drop}
use Rattle.std.specs.List.{AllByRecursion}
use Rattle.st_records.specs.Limits.{IsGoodIn}
use Rattle.st_file.specs.Batch.{body_in, framed_in}
use Rattle.st_file.proofs.batch_writer.batch_text.Given as goal

-- what is written, and the text of the records that are left, make up the frame
abbrev pub invariant-loop-event : goal.invariant-loop-event
invariant-loop-event l = record {
  text : l.text.items ++ body_in l.form (drop l.event-index l.records) ≡ framed_in l.form l.records;
  good : AllByRecursion (IsGoodIn l.form) (drop l.event-index l.records);
}
