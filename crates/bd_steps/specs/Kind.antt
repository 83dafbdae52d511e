-- What a record says, whatever else stands in it.
use Rattle.st_records.specs.declared.record.Record.{Record}
use Rattle.st_records.specs.declared.record.Record.TheVariants as records

pub data Kind : Type 0 where
  begun : Kind
  done : Kind
  failed : Kind
  kept : Kind

abbrev pub kind_of : Record → Kind
kind_of (records.Begun target) = begun
kind_of (records.Done target commands hidden explicit) = done
kind_of (records.Failed target status) = failed
kind_of (records.Kept target entry) = kept
