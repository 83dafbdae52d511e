-- What a graph has under a number. Past the end there is nothing.
use Rattle.std.specs.Prelude.{ℕ, ℤ, Bool, false, List, [], map, slice_get, slice_index_or, Option, option_map, option_and_then, unwrap_or}
use Rattle.std.specs.FinMap as finmap
use Rattle.std.specs.Option.{option_map_or}
use Rattle.mk_graph.specs.Edges.{row}
use Rattle.mk_names.specs.Names.{name_at}
use Rattle.mk_nodes.specs.Look.{time_of}
use Rattle.mk_nodes.specs.Node.{source_in, explicit_in, hidden_in}
use Rattle.mk_nodes.specs.declared.graph.Node.{Node}
use Rattle.mk_nodes.specs.declared.graph.Graph.{Graph}
use Rattle.mk_nodes.specs.declared.group.Group.{Group}
use Rattle.st_records.specs.declared.record.Entry.{Entry}

abbrev pub node_at : Graph → (n : ℕ) → Option Node
node_at graph n = slice_get graph.nodes.items n

-- the time of its file
abbrev pub stamp_of : Graph → (n : ℕ) → Option ℤ
stamp_of graph n = option_and_then (λ node. time_of node.stamp) (node_at graph n)

-- what its recipe makes beside it, where it is that of an implicit rule and makes more
abbrev pub group_in : Node → Option Group
group_in node = option_map (λ g. g.value) node.rare.group

-- when all that its recipe makes was made: the time of its file, and where the recipe makes more, the earliest of all; none where a file
-- is missing
abbrev pub made_in : Node → Option ℤ
made_in node = option_map_or (λ g. g.made) (group_in node) (time_of node.stamp)

abbrev pub made_of : Graph → (n : ℕ) → Option ℤ
made_of graph n = option_and_then made_in (node_at graph n)

-- what its recipe makes beside it
abbrev pub made_beside : Graph → (n : ℕ) → List (List ℕ)
made_beside graph n = option_map_or (λ g. g.others) (option_and_then group_in (node_at graph n)) []

-- what the state has of its name
abbrev pub entry_of : Graph → (n : ℕ) → Option Entry
entry_of graph n = finmap.get graph.state (name_at graph.names n)

-- its hidden prerequisites that are no hard ones; None where one is gone
abbrev pub hidden_of : Graph → (n : ℕ) → List (Option ℕ)
hidden_of graph n = hidden_in (node_at graph n) (row graph.soft n)

-- its stem, where an implicit rule makes it; else nothing
abbrev pub stem_of : Graph → (n : ℕ) → List ℕ
stem_of graph n = unwrap_or (option_and_then (λ node. node.rare.stem) (node_at graph n)) []

-- the name of its implicit source; else nothing
abbrev pub source_of : Graph → (n : ℕ) → List ℕ
source_of graph n = option_map_or (name_at graph.names) (source_in (node_at graph n) (row graph.hard n)) []

-- its prerequisites by name, as they are recorded
abbrev pub explicit_of : Graph → (n : ℕ) → List (List ℕ)
explicit_of graph n = map (name_at graph.names) (explicit_in (node_at graph n) (row graph.hard n))

-- the mark of a node
abbrev pub is_marked : (marks : List Bool) (n : ℕ) → Bool
is_marked marks n = slice_index_or marks n false
