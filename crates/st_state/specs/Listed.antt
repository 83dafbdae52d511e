-- Names with their entries, by the places at which they stand in a list.
use Rattle.std.specs.Prelude.{ℕ, List, [], slice_index_or}
use Rattle.st_records.specs.declared.record.Entry.{Entry}
use Rattle.st_records.specs.declared.record.Phase.TheVariants.{Begun}
use Rattle.st_records.specs.declared.record.Explicit.TheVariants.{Unknown}

-- what stands at no place
abbrev pub nothing_known : List ℕ × Entry
nothing_known = ([], record { phase = Begun; commands = []; hidden = []; explicit = Unknown })

-- the name and the entry at a place of a list
abbrev pub entry_at : List (List ℕ × Entry) → ℕ → List ℕ × Entry
entry_at es place = slice_index_or es place nothing_known
