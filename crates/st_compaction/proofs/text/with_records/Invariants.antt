use Rattle.std.proofs.Common.{◌≡◌, ◌++◌, drop}
use Rattle.std.specs.List.{AllByRecursion}
use Rattle.st_records.specs.Limits.{IsGoodIn}
use Rattle.st_file.specs.Batch.{body_in}
use Rattle.st_compaction.specs.Named.{records_of_names}
use Rattle.st_compaction.proofs.text.with_records.Given as goal

-- what is written, and the records of the names that are left, make up the whole
abbrev pub invariant-loop-place : goal.invariant-loop-place
invariant-loop-place l = record {
  text : l.text.items ++ body_in l.fn.form (records_of_names (drop l.place l.named)) ≡ l.initial.text.items ++ body_in l.fn.form (records_of_names l.named);
  good : AllByRecursion (IsGoodIn l.fn.form) (records_of_names (drop l.place l.named));
}
