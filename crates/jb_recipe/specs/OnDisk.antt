-- Files that are put on the disk before a 'done' is written of what made them. Own.
use Rattle.std.specs.Prelude.{ℕ, List, ◌∷◌}
use Rattle.std.specs.List.{AllByRecursion}
use Rattle.mk_names.specs.Names.{name_at}
use Rattle.mk_nodes.specs.declared.graph.Graph.{Graph}
use Rattle.mk_seen.specs.Nodes.{made_beside}
use Rattle.st_records.specs.declared.record.Record.{Record}
use Rattle.st_records.specs.declared.record.Record.TheVariants as records

-- a target and what its recipe makes beside it
abbrev pub files_made : Graph → (n : ℕ) → List (List ℕ)
files_made graph n = name_at graph.names n ∷ made_beside graph n

-- a record that a recipe was run to its end stands only behind the sync of each file that the recipe made
abbrev pub StandsBehind : (synced : List ℕ → Type 0) → (made : List (List ℕ)) → Record → Type 0
StandsBehind synced made (records.Done target commands hidden explicit) = AllByRecursion synced made
StandsBehind synced made (records.Begun target) = Unit {0}
StandsBehind synced made (records.Failed target status) = Unit {0}
StandsBehind synced made (records.Kept target entry) = Unit {0}
