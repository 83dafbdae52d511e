use Rattle.std.proofs.Common.{◌≡◌, ◌+◌, length}
use Rattle.std.specs.List.{list_any, flat_map}
use Rattle.st_records.specs.Encoding.{string}
use Rattle.st_records.specs.Tests.{is_empty_name, is_bad_name, is_long_name}
use Rattle.st_records.proofs.within.room_after_names.Given as goal

-- what is left, and what was taken for the names before, is the room that there was; a name that fails stands among those
-- that are left
abbrev pub invariant-loop-name : goal.invariant-loop-name
invariant-loop-name l = record {
  room : l.left + length (flat_map string l.fn.names) ≡ l.fn.room + length (flat_map string l.name-iterator);
  empty : list_any is_empty_name l.fn.names ≡ list_any is_empty_name l.name-iterator;
  bad : list_any is_bad_name l.fn.names ≡ list_any is_bad_name l.name-iterator;
  long : list_any (is_long_name l.fn.form) l.fn.names ≡ list_any (is_long_name l.fn.form) l.name-iterator;
}
