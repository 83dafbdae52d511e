-- The graph of the names that goals lead to.
use Rattle.std.specs.Prelude.{◌≡◌, ℕ, ◌<◌, nat_lt, ◌||◌, ◌&&◌, not, Bool, true, List, ◌++◌, length, map, Option, Some, None, option_map, slice_get, IsTrue, unwrap_or, if◌then◌else◌}
use Rattle.mk_graph.specs.Edges.{row, is_closed, has as has_number}
use Rattle.mk_graph.specs.Cycle.{HasCycle}
use Rattle.mk_graph.specs.Counted.{counting, IsDropped}
use Rattle.mk_names.specs.Names.{name_at}
use Rattle.mk_graph.specs.Numbering.{IsNumbering}
use Rattle.mk_rule_lines.specs.Rules.{suffixes_of, has}
use Rattle.mk_makefile.specs.Taken.{AreTaken}
use Rattle.mk_settings.specs.Goals.{goals_of, settings_of}
use Rattle.mk_nodes.specs.Groups.{group_of}
use Rattle.mk_nodes.specs.Node.{source_by, explicit_by, hidden_by}
use Rattle.mk_nodes.specs.Prerequisites.{Inputs, implicit_source, made_from, source_name, distinct, explicit_names, recipe_of, hard_of, is_node, prerequisites_of, judged_of, is_made, required_of, soft_names}
use Rattle.mk_nodes.specs.Waits.{line_orders}
use Rattle.mk_graph.specs.Plan.{IsPlan}
use Rattle.std.specs.FinMap as finmap
use Rattle.std.specs.List.{list_all, list_any}
use Rattle.std.specs.Option.{option_map_or}
use Rattle.mk_nodes.specs.declared.graph.Node.{Node}
use Rattle.mk_nodes.specs.declared.graph.Graph.{Graph}

-- the prerequisites of a node as they are judged, numbered from 0: the hard ones, which are nodes, then the hidden ones,
-- which may be gone
abbrev pub judged : (hard : List ℕ) → (hidden : List (Option ℕ)) → List (Option ℕ)
judged hard hidden = map Some hard ++ hidden

-- the prerequisite with this name, as it is judged: None where it is gone. A hard one never is
abbrev pub judged_name : Inputs → (hard : List (List ℕ)) → (name : List ℕ) → Option (List ℕ)
judged_name inputs hard name = if has name hard || is_node inputs name then Some name else None

-- a hidden prerequisite as a node has it: it is gone, or the number of one of so many names
abbrev pub is_numbered : (count : ℕ) → (hidden : Option ℕ) → Bool
is_numbered count hidden = option_map_or (λ n. nat_lt n count) hidden true

-- what is known of a name: the rows are those of its hard prerequisites and of what it waits for besides
pub record IsNode (inputs : Inputs) (names : List (List ℕ)) (hard soft : List ℕ) (name : List ℕ) (node : Node) : Type 0 where
  pub stamp : node.stamp ≡ inputs.looks name
  pub stem : node.rare.stem ≡ option_map (λ s. s.stem) (implicit_source inputs name)
  pub implied : node.rare.implied ≡ length (distinct (made_from (implicit_source inputs name)))
  pub source : option_map (name_at names) (source_by node.rare.implied hard) ≡ source_name (implicit_source inputs name)
  pub explicit : map (name_at names) (explicit_by node.rare.implied hard) ≡ explicit_names inputs name
  pub recipe : node.recipe ≡ recipe_of inputs name
  pub group : option_map (λ g. g.value) node.rare.group ≡ group_of inputs name
  pub prerequisites :
      map (option_map (name_at names)) (judged hard (hidden_by node soft))
      ≡ map (judged_name inputs (hard_of inputs name)) (judged_of inputs name)
  pub numbered : list_all (is_numbered (length names)) (hidden_by node soft) ≡ true

-- p comes before q where it may: q waits for it and it is no hard prerequisite, or some line's `.WAIT` says so
abbrev pub is_soft : Inputs → (names : List (List ℕ)) → (q p : List ℕ) → Bool
is_soft inputs names q p = has p (soft_names inputs q) || list_any (line_orders names (suffixes_of inputs.lines) p q) inputs.lines

-- the row of q has the number of p just where this holds of them
abbrev pub AreEdges : (names : List (List ℕ)) → (is_edge : (q p : List ℕ) → Bool) → (edges : List (List ℕ)) → Type 0
AreEdges names is_edge edges = (n m : ℕ) → n < length names → m < length names →
    has_number (row edges n) m ≡ is_edge (name_at names n) (name_at names m)

-- the soft edges of a graph of these names
abbrev pub AreSoft : Inputs → (names : List (List ℕ)) → (soft : List (List ℕ)) → Type 0
AreSoft inputs names soft = AreEdges names (is_soft inputs names) soft

-- the rows hold, of each name, what it can't be made without by number
pub record AreRequired (inputs : Inputs) (names : List (List ℕ)) (required : List (List ℕ)) : Type 0 where
  pub nodes : length required ≡ length names
  pub closed : IsTrue (is_closed required)
  pub rows : (n : ℕ) → n < length names → map (name_at names) (row required n) ≡ required_of inputs (name_at names n)

-- what each node of the graph can't be made without: its hard prerequisites, where it is not said that there are others
abbrev pub required_in : Graph → List (List ℕ)
required_in graph = unwrap_or graph.required graph.hard

-- the edges that order the nodes of the graph
abbrev pub counting_in : Graph → List (List ℕ)
counting_in graph = counting (required_in graph) graph.soft graph.soft_dropped

-- the numbers are those of the names that aren't there, and that nothing makes
abbrev pub AreUnmade : Inputs → (names : List (List ℕ)) → (unmade : List ℕ) → Type 0
AreUnmade inputs names unmade = (n : ℕ) → has_number unmade n ≡ (nat_lt n (length names) && not (is_made inputs (name_at names n)))

-- the rows hold the hard prerequisites of each name by number
abbrev pub AreHard : Inputs → (names : List (List ℕ)) → (hard : List (List ℕ)) → Type 0
AreHard inputs names hard =
    (length hard ≡ length names) × ((n : ℕ) → n < length names → map (name_at names) (row hard n) ≡ hard_of inputs (name_at names n))

-- the graph of these inputs, for the goals that are named
pub record IsGraph (inputs : Inputs) (named : List (List ℕ)) (graph : Graph) : Type 0 where
  pub lines : graph.lines.items ≡ inputs.lines
  pub taken : AreTaken inputs.lines
  pub names : IsNumbering (prerequisites_of inputs) (goals_of inputs.lines named) graph.names
  pub goals : map (name_at graph.names) graph.goals.items ≡ goals_of inputs.lines named
  pub unmade : AreUnmade inputs graph.names graph.unmade.items
  pub nodes : length graph.nodes.items ≡ length graph.names
  pub node : (n : ℕ) (node : Node) → slice_get graph.nodes.items n ≡ Some node →
      IsNode inputs graph.names (row graph.hard n) (row graph.soft n) (name_at graph.names n) node
  pub hard : AreHard inputs graph.names graph.hard
  pub required : AreRequired inputs graph.names (required_in graph)
  pub soft : AreSoft inputs graph.names graph.soft
  pub dropped : IsDropped (required_in graph) graph.soft graph.soft_dropped
  pub acyclic : HasCycle (required_in graph) → ⊥
  pub order : IsPlan (counting_in graph) graph.order.items
  pub settings : graph.settings ≡ settings_of inputs.lines
  pub entries : finmap.get graph.state ≡ inputs.entries
