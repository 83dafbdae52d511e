-- Names with their entries, as the records that say all of them.
use Rattle.std.specs.Prelude.{ℕ, List, map as list_map}
use Rattle.st_records.specs.declared.record.Entry.{Entry}
use Rattle.st_records.specs.declared.record.Record.{Record}
use Rattle.st_state.specs.Keepable.{kept_record}

-- a kept record for each name, in the order of the list
abbrev pub records_of_names : List (List ℕ × Entry) → List Record
records_of_names named = list_map kept_record named
