-- What the first and the last bytes of a table's names tell of a name. Own.
use Rattle.std.specs.Prelude.{ℕ, ◌-◌, Bool, true, ◌&&◌, ◌||◌, nat_eq, List, length, slice_index, slice_index_or}
use Rattle.name_keys.specs.declared.ends.NameEnds.{NameEnds}

-- whether a byte is marked; of what is no byte nothing is told
abbrev pub is_marked : (marks : List Bool) (byte : ℕ) → Bool
is_marked marks byte = slice_index_or marks byte true

-- some name of the table begins with the same byte, and some ends with the same; of the empty name nothing is told
abbrev pub may_have : NameEnds → List ℕ → Bool
may_have ends name =
    nat_eq (length name) 0 || (is_marked ends.first (slice_index name 0) && is_marked ends.last (slice_index name (length name - 1)))
