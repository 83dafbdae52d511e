-- What is found of all names that goals lead to.
use Rattle.std.specs.Prelude.{◌≡◌, ℕ, ◌<◌, true, false, List, length, map, IfSome}
use Rattle.mk_graph.specs.Edges.{row, has as has_number}
use Rattle.mk_names.specs.Names.{name_at, has_name}
use Rattle.mk_graph.specs.Numbering.{IsNumbering, AreDescribed}
use Rattle.mk_graph.specs.declared.numbering.Numbered.{Numbered}
use Rattle.mk_rules.specs.Faults.{IsAskedOf, HasUnmade, HasNamedCycle}
use Rattle.mk_edges.specs.Known.{IsKnown}
use Rattle.mk_nodes.specs.Prerequisites.{Inputs, prerequisites_of, is_made}
use Rattle.mk_rule_lines.specs.declared.fault.Unmade.{Unmade}
use Rattle.mk_rule_lines.specs.declared.fault.RuleFault.{RuleFault}
use Rattle.mk_rule_lines.specs.declared.fault.RuleFault.TheVariants as fault
use Rattle.mk_nodes.specs.declared.graph.Node.{Node}

-- the names that the goals lead to by these inputs, with their prerequisites by number, and what the inputs say of each
pub record AreFound (inputs : Inputs) (goals : List (List ℕ)) (n : Numbered Node) : Type 0 where
  pub names_are : IsNumbering (prerequisites_of inputs) goals n.names
  pub rows_are : map (map (name_at n.names)) n.rows ≡ map (prerequisites_of inputs) n.names
  pub goals_are : map (name_at n.names) n.goals.items ≡ goals
  pub known : AreDescribed (IsKnown inputs) n.names n.nodes.items

-- a name that can't be looked at while one that the goals lead to is looked up
pub record IsAskedFor (inputs : Inputs) (goals : List (List ℕ)) (name : List ℕ) : Type 0 where
  pub node : List ℕ
  pub is_name : (names : List (List ℕ)) → IsNumbering (prerequisites_of inputs) goals names → has_name names node ≡ true
  pub asked : IsAskedOf inputs node name

-- the fault of looking up all names that the goals lead to
abbrev pub IsFindingFault : Inputs → (refuses : List ℕ → Type 0) → (goals : List (List ℕ)) → (limit : ℕ) → RuleFault → Type 0
IsFindingFault inputs refuses goals limit fault.OutOfMemory = Unit {0}
IsFindingFault inputs refuses goals limit fault.TooMany = (names : List (List ℕ)) → IsNumbering (prerequisites_of inputs) goals names → limit < length names
IsFindingFault inputs refuses goals limit (fault.Tree name) = IsAskedFor inputs goals name × refuses name
IsFindingFault inputs refuses goals limit _ = ⊥

-- this is the name of a node in whose row the other node stands
pub record HasItInItsRow (names : List (List ℕ)) (rows : List (List ℕ)) (node : ℕ) (user : List ℕ) : Type 0 where
  pub number : ℕ
  pub within : number < length rows
  pub in_row : has_number (row rows number) node ≡ true
  pub name : user ≡ name_at names number

-- a name that nothing makes, and a name in whose row it stands, if one is told
pub record IsUnmadeNode (inputs : Inputs) (names : List (List ℕ)) (rows : List (List ℕ)) (told : Unmade) : Type 0 where
  pub node : ℕ
  pub within : node < length names
  pub name : told.name ≡ name_at names node
  pub unmade : is_made inputs (name_at names node) ≡ false
  pub needed : IfSome told.needed_by (HasItInItsRow names rows node)

-- the fault of looking for a name that nothing makes
abbrev pub IsUnmadeFault : Inputs → (names : List (List ℕ)) (rows : List (List ℕ)) → RuleFault → Type 0
IsUnmadeFault inputs names rows fault.OutOfMemory = Unit {0}
IsUnmadeFault inputs names rows (fault.NoRule told) = IsUnmadeNode inputs names rows told
IsUnmadeFault inputs names rows _ = ⊥

-- the fault of putting a graph together
abbrev pub IsGraphlessFault : Inputs → (named : List (List ℕ)) → RuleFault → Type 0
IsGraphlessFault inputs named fault.OutOfMemory = Unit {0}
IsGraphlessFault inputs named (fault.NoRule told) = HasUnmade inputs named told
IsGraphlessFault inputs named (fault.Cycle cycle) = HasNamedCycle inputs named cycle.names
IsGraphlessFault inputs named _ = ⊥
