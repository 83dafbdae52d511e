-- A record by its target and what happened to it.
use Rattle.std.specs.Prelude.{ℕ, List}
use Rattle.st_records.specs.declared.record.Record.{Record}
use Rattle.st_records.specs.declared.record.Record.TheVariants as records
use Rattle.st_packed.specs.declared.packed_record.Event.{Event}
use Rattle.st_packed.specs.declared.packed_record.Event.TheVariants as events

abbrev pub record_from : List ℕ → Event → Record
record_from target events.Begun = records.Begun target
record_from target (events.Done entry) = records.Done target entry.commands entry.hidden entry.explicit
record_from target (events.Failed status) = records.Failed target status
record_from target (events.Kept entry) = records.Kept target entry
