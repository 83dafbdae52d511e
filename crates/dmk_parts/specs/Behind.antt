-- What a part of a run makes behind others: no recipe is run a second time for a name that it leaves without a file, or that failed, and
-- nothing is made that stands on one that failed (POSIX make, "DESCRIPTION": each target is brought up to date once; "OPTIONS", `-k`: the
-- targets that don't depend on one that failed are). Which parts there are is own.
use Rattle.std.specs.Prelude.{◌≡◌, ◌≢◌, ◌⊎◌, ◌↔◌, ◌&&◌, ◌||◌, ◌++◌, ℕ, Bool, true, false, not, List, [], Some, None, is_none, is_some, nat_eq, length, slice_get}
use Rattle.mk_graph.specs.Edges.{row, has}
use Rattle.mk_nodes.specs.Graph.{required_in}
use Rattle.mk_plan.specs.Nodes.{is_marked}
use Rattle.mk_plan.specs.Passage.{Passage}
use Rattle.mk_plan.specs.Passing.{Passes, PassesUnlisted, IsFaultAt}
use Rattle.mk_plan.specs.declared.fault.RecipeFault.TheVariants as fault
use Rattle.mk_rule_lines.specs.declared.fault.TextFault.{TextFault}
use Rattle.dmk_reading.specs.Passing.{no_marks, lists_any}
use Rattle.mk_names.specs.Names.{name_at, has_name}
use Rattle.mk_nodes.specs.declared.graph.Graph.{Graph}
use Rattle.mk_nodes.specs.declared.graph.Node.{Node}
use Rattle.dmk_reading.specs.Lost.{StandsOn}
use Rattle.dmk_parts.specs.declared.tried.Tried.{Tried}

-- no names
abbrev pub none_tried : Tried
none_tried = record { built = []; filed = []; failed = [] }

-- the names of both, one behind the other
abbrev pub both_tried : (before more : Tried) → Tried
both_tried before more = record { built = before.built ++ more.built; filed = before.filed ++ more.filed; failed = before.failed ++ more.failed }

-- a node for which nothing is run, and that counts as remade where it has no file: it has no recipe; or the node as it was
abbrev pub cleared_where : (is_cleared : Bool) → Node → Node
cleared_where true node = record node { recipe = None }
cleared_where false node = node

-- whether a node has one of the names that parts before made, and no file
abbrev pub is_made_before : (made : List (List ℕ)) → (name : List ℕ) → Node → Bool
is_made_before made name node = has_name made name && is_none node.stamp

-- a node isn't made for a failure: its name is one of those that failed, or it isn't made without another one that isn't made
abbrev pub StandsOnFailed : (failed : List (List ℕ)) → (graph : Graph) → (n : ℕ) → Type 0
StandsOnFailed failed graph n = StandsOn graph (λ m. has_name failed (name_at graph.names m) ≡ true) n

-- ---- What was built and has its file

-- whether a node has one of the names that parts before built, and a file
abbrev pub is_filed_before : (filed : List (List ℕ)) → (name : List ℕ) → Node → Bool
is_filed_before filed name node = has_name filed name && is_some node.stamp

-- whether a name without a file stands for others: it has no recipe, and isn't made without others
abbrev pub is_group : (graph : Graph) → (n : ℕ) → Node → Bool
is_group graph n node = (is_none node.stamp && is_none node.recipe) && not (nat_eq (length (row (required_in graph) n)) 0)

-- whether the recipe of a node is to be run though nothing else was remade: a listing would have it, or a line of it has no expansion
pub data IsRunAlone (counting : Bool) (graph : Graph) (none : List Bool) (n : ℕ) : (is_run : Bool) → Type 0 where
  is_listed : (remade : Bool) (told : List Passage) → Passes counting graph none n remade told → lists_any told ≡ true → IsRunAlone counting graph none n true
  is_faulty : (f : TextFault) → IsFaultAt graph none n (fault.Macro f) → IsRunAlone counting graph none n true
  is_left : (remade : Bool) → PassesUnlisted counting graph none n remade → IsRunAlone counting graph none n false

-- whether what stands on a node is made again for it, behind parts that built these names and left them without a file: none is for such a
-- name. Of a group it isn't known whether one of its files is newer
pub data IsCause (built : List (List ℕ)) (counting : Bool) (graph : Graph) (none : List Bool) (n : ℕ) (node : Node) : (is_cause : Bool) → Type 0 where
  was_made : is_made_before built (name_at graph.names n) node ≡ true → IsCause built counting graph none n node false
  stands_for_others : is_made_before built (name_at graph.names n) node ≡ false → is_group graph n node ≡ true → IsCause built counting graph none n node true
  by_itself : (is_run : Bool) → is_made_before built (name_at graph.names n) node ≡ false → is_group graph n node ≡ false →
      IsRunAlone counting graph none n is_run → IsCause built counting graph none n node is_run

-- these are the numbers of all such nodes
abbrev pub AreCauses : (built : List (List ℕ)) (counting : Bool) (graph : Graph) (causes : List ℕ) → Type 0
AreCauses built counting graph causes =
    (n : ℕ) (node : Node) → slice_get graph.nodes.items n ≡ Some node → IsCause built counting graph (no_marks graph) n node (has causes n)

-- a name that was built has its file, and stands on no cause to make it again: what never has a file, as FORCE, is none
abbrev pub IsAsBuilt : (filed : List (List ℕ)) → (graph : Graph) → (causes : List ℕ) → (n : ℕ) → Node → Type 0
IsAsBuilt filed graph causes n node =
    (is_filed_before filed (name_at graph.names n) node ≡ true) × (StandsOn graph (λ m. has causes m ≡ true) n → ⊥)

-- ---- The graph behind parts

-- behind parts that tried these names nothing is to be run for a node: it was made and has no file, or it isn't made for a failure, or it was
-- built and has its file
abbrev pub HasNothingToRun : (before : Tried) → (graph : Graph) → (causes : List ℕ) → (n : ℕ) → Node → Type 0
HasNothingToRun before graph causes n node =
    (is_made_before before.built (name_at graph.names n) node ≡ true) ⊎ (StandsOnFailed before.failed graph n ⊎ IsAsBuilt before.filed graph causes n node)

-- so it is as a test, by marks of the nodes that aren't made and of those that are made again or stand on one that is
abbrev pub is_cleared_by : (built : List (List ℕ)) (unmade : List Bool) (filed : List (List ℕ)) (moved : List Bool) (name : List ℕ) (n : ℕ) → Node → Bool
is_cleared_by built unmade filed moved name n node =
    (is_made_before built name node || is_marked unmade n) || (is_filed_before filed name node && not (is_marked moved n))

-- a mark for each node, which is set where there is nothing to run for it. Causes are looked for where some built names have files
abbrev pub AreMarkedBehind : (before : Tried) (counting : Bool) (graph : Graph) (marks : List Bool) → Type 0
AreMarkedBehind before counting graph marks = (causes : List ℕ) × (before.filed ≢ [] → AreCauses before.built counting graph causes)
    × ((n : ℕ) (node : Node) → slice_get graph.nodes.items n ≡ Some node →
    (mark : Bool) × (slice_get marks n ≡ Some mark) × ((mark ≡ true) ↔ HasNothingToRun before graph causes n node))

-- a node as it is behind these parts: it is cleared where there is nothing to run, and nowhere else
pub record IsNodeBehind (before : Tried) (graph : Graph) (causes : List ℕ) (n : ℕ) (node behind : Node) : Type 0 where
  pub is_cleared : Bool
  pub is : behind ≡ cleared_where is_cleared node
  pub just_where : (is_cleared ≡ true) ↔ HasNothingToRun before graph causes n node

-- two graphs that are alike but for their nodes
pub record AreAlike (one other : Graph) : Type 0 where
  pub names : one.names ≡ other.names
  pub goals : one.goals ≡ other.goals
  pub unmade : one.unmade ≡ other.unmade
  pub hard : one.hard ≡ other.hard
  pub required : one.required ≡ other.required
  pub soft : one.soft ≡ other.soft
  pub order : one.order ≡ other.order
  pub soft_dropped : one.soft_dropped ≡ other.soft_dropped
  pub lines : one.lines ≡ other.lines
  pub targets : one.targets ≡ other.targets
  pub suffixes : one.suffixes ≡ other.suffixes
  pub settings : one.settings ≡ other.settings
  pub macros : one.macros ≡ other.macros
  pub state : one.state ≡ other.state

-- the graph with its nodes as they are behind parts that tried these names. Causes are looked for where some built ones have files
pub record IsGraphBehind (before : Tried) (counting : Bool) (graph behind : Graph) : Type 0 where
  pub causes : List ℕ
  pub are_causes : before.filed ≢ [] → AreCauses before.built counting graph causes
  pub count : length behind.nodes.items ≡ length graph.nodes.items
  pub nodes : (n : ℕ) (node new : Node) → slice_get graph.nodes.items n ≡ Some node → slice_get behind.nodes.items n ≡ Some new →
      IsNodeBehind before graph causes n node new
  pub alike : AreAlike behind graph

-- the graph by which a part is judged: where nothing was tried before, as it is
pub record IsJudgedBehind (before : Tried) (counting : Bool) (graph judged : Graph) : Type 0 where
  pub behind : IsGraphBehind before counting graph judged
  pub first : before ≡ none_tried → judged ≡ graph
