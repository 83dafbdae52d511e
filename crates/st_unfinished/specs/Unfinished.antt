-- What is left of a target's entry whose recipe isn't done.
use Rattle.std.specs.Prelude.{ℕ, List, []}
use Rattle.st_records.specs.declared.record.Phase.{Phase}
use Rattle.st_records.specs.declared.record.Explicit.TheVariants.{Unknown}
use Rattle.st_records.specs.declared.record.Entry.{Entry}

-- what is left of a target whose recipe is not done: no commands, the hidden names as last known, and no explicit
-- names that count
abbrev pub unfinished : Phase → List (List ℕ) → Entry
unfinished phase hidden = record { phase = phase; commands = []; hidden = hidden; explicit = Unknown }
