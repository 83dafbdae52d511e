-- Names that are UTF-8.
use Rattle.std.specs.Prelude.{◌≡◌, true}
use Rattle.std.specs.List.{list_all}
use Rattle.std.specs.Str.{is_utf8}
use Rattle.mk_nodes.specs.declared.graph.Graph.{Graph}

-- each name of the graph is
abbrev pub HasTextNames : Graph → Type 0
HasTextNames graph = list_all is_utf8 graph.names ≡ true
