-- What `$^`, `$+` and `$|` stand for in the wide profile (POSIX make, "Internal Macros"; GNU make manual, "Automatic Variables"). The
-- strict profile has no such macros.
use Rattle.std.specs.Prelude.{ℕ, if◌then◌else◌, List, ◌++◌, drop, length, map, Option, Some, None}
use Rattle.mk_graph.specs.Edges.{row}
use Rattle.mk_names.specs.Names.{name_at}
use Rattle.mk_profile.specs.Profile.{is_wide}
use Rattle.mk_profile.specs.declared.profile.Profile.{Profile}
use Rattle.mk_rule_lines.specs.Explicit.{explicit_of}
use Rattle.mk_nodes.specs.Graph.{required_in}
use Rattle.mk_nodes.specs.Node.{implied_in}
use Rattle.mk_nodes.specs.declared.graph.Graph.{Graph}
use Rattle.mk_seen.specs.Nodes.{node_at}

-- what the wide profile alone has
abbrev pub in_wide : {A : Type 0} → Profile → (value : A) → Option A
in_wide profile value = if is_wide profile then Some value else None

-- what an implicit rule makes node n from, each once
abbrev pub implied_names : Graph → (n : ℕ) → List (List ℕ)
implied_names graph n = map (name_at graph.names) (implied_in (node_at graph n) (row graph.hard n))

-- what it is made from as it is written: what an implicit rule makes it from, then the prerequisites of its lines in their order,
-- without `.WAIT`
abbrev pub written_of : Graph → (n : ℕ) → List (List ℕ)
written_of graph n = implied_names graph n ++ explicit_of graph.lines.items (name_at graph.names n)

-- its order-only prerequisites: what it can't be made without, behind its prerequisites, each once
abbrev pub order_only_words : Graph → (n : ℕ) → List (List ℕ)
order_only_words graph n = map (name_at graph.names) (drop (length (row graph.hard n)) (row (required_in graph) n))
