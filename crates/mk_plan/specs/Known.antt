-- What a graph has under a number, by what the rule lines, the files and the state say of the name with this number.
use Rattle.std.specs.Prelude.{◌≡◌, ℕ, List, [], ◌++◌, drop, length, map, is_some, option_map, option_and_then, unwrap_or, slice_get}
use Rattle.std.specs.Option.{option_map_or}
use Rattle.mk_graph.specs.Edges.{row}
use Rattle.mk_names.specs.Names.{all_added, name_at}
use Rattle.mk_rule_lines.specs.Explicit.{explicit_of as names_written}
use Rattle.mk_nodes.specs.Graph.{judged, judged_name}
use Rattle.mk_nodes.specs.Groups.{made_time, made_beside as names_beside}
use Rattle.mk_nodes.specs.Look.{time_of}
use Rattle.mk_nodes.specs.Prerequisites.{Inputs, implicit_source, made_from, source_name, recipe_of as rule_of, distinct, hard_of, hidden_of as hidden_names, judged_of, explicit_names, required_of}
use Rattle.mk_nodes.specs.declared.graph.Graph.{Graph}
use Rattle.mk_seen.specs.Marks.{look_from, look_of, looks_beside, source_name as named_source}
use Rattle.mk_seen.specs.Nodes.{stamp_of, made_of, made_beside, entry_of, hidden_of, stem_of, source_of, explicit_of}
use Rattle.mk_plan.specs.ExplicitWords.{is_implicit}
use Rattle.mk_plan.specs.Parts.{language_of, parts_of, recipe_of}
use Rattle.mk_plan.specs.Why.{judged_names}
use Rattle.mk_plan.specs.Words.{implied_names, written_of, order_only_words}

-- node n is the name's: its file's time, what a look at it tells, when all that its recipe makes was made, and what that makes beside it,
-- with the looks at it, its entry, the stem and the source of the implicit rule that makes it, if one does, the lines whose recipes make
-- it, and its prerequisites, by name as they are recorded, as they are written, and as they are judged, and all of their names, gone or
-- not, and its order-only prerequisites
pub record IsNodeOf (inputs : Inputs) (graph : Graph) (n : ℕ) (name : List ℕ) : Type 0 where
  pub stamp : stamp_of graph n ≡ time_of (inputs.looks name)
  pub look : look_of graph n ≡ look_from (inputs.looks name)
  pub made : made_of graph n ≡ made_time inputs name
  pub made_too : made_beside graph n ≡ names_beside inputs name
  pub beside : looks_beside graph n ≡ map inputs.looks (names_beside inputs name)
  pub entry : entry_of graph n ≡ inputs.entries name
  pub stem : stem_of graph n ≡ option_map_or (λ s. s.stem) (implicit_source inputs name) []
  pub implicit : is_implicit graph n ≡ is_some (implicit_source inputs name)
  pub source : source_of graph n ≡ unwrap_or (source_name (implicit_source inputs name)) []
  pub source_named : named_source graph n ≡ source_name (implicit_source inputs name)
  pub recipe :
      recipe_of graph n ≡ option_map (parts_of (language_of graph) inputs.lines name) (option_and_then (slice_get inputs.lines) (rule_of inputs name))
  pub hard : map (name_at graph.names) (row graph.hard n) ≡ hard_of inputs name
  pub names : judged_names graph n ≡ all_added (distinct (hard_of inputs name)) (hidden_names inputs name)
  pub explicit : explicit_of graph n ≡ explicit_names inputs name
  pub sources : implied_names graph n ≡ distinct (made_from (implicit_source inputs name))
  pub written : written_of graph n ≡ distinct (made_from (implicit_source inputs name)) ++ names_written inputs.lines name
  pub order_only : order_only_words graph n ≡ drop (length (hard_of inputs name)) (required_of inputs name)
  pub prerequisites :
      map (option_map (name_at graph.names)) (judged (row graph.hard n) (hidden_of graph n))
      ≡ map (judged_name inputs (hard_of inputs name)) (judged_of inputs name)
