-- From the text of makefiles to a graph: each stage is that of its crate.
use Rattle.std.specs.Prelude.{◌≡◌, ℕ, Bool, true, false, List, [], ◌∷◌, ◌++◌, Option, Ok}
use Rattle.std.specs.FinMap as map
use Rattle.mk_profile.specs.declared.profile.Profile.{Profile}
use Rattle.mk_macros.specs.Ranks.{Defined, defined_by}
use Rattle.mk_eval.specs.Output.{World}
use Rattle.mk_eval.specs.Makefile.{TextItems, depth}
use Rattle.mk_reader.specs.declared.item.Item.{Item}
use Rattle.mk_rules.specs.Faults.{AreInputs}
use Rattle.mk_nodes.specs.Graph.{IsGraph}
use Rattle.mk_rule_lines.specs.Lines.{behind_items}
use Rattle.mk_nodes.specs.Prerequisites.{Inputs}
use Rattle.mk_nodes.specs.declared.graph.Graph.{Graph}
use Rattle.st_disk.specs.declared.which.Which.{Which}
use Rattle.st_disk.specs.declared.which.Which.TheVariants as sides
use Rattle.st_state.specs.State.{StateMap}
use Rattle.st_records.specs.declared.version.Form.{Form}
use Rattle.st_recovery.specs.Recovers.{RecoversIn}
use Rattle.dmk_reading.specs.Definitions.{first_defined}
use Rattle.dmk_reading.specs.BuiltIn.{reads_rules, AreRules}
use Rattle.dmk_reading.specs.Makefile.{IsUsualMakefile, AllItems}
use Rattle.dmk_reading.specs.OldRules.{WithoutRulesOf}
use Rattle.dmk_reading.specs.declared.makefiles.Makefiles.{Makefiles}
use Rattle.bd_lists.specs.declared.recipe.Variable.{Variable}
use Rattle.mk_nodes.specs.declared.file_look.FileLook.{FileLook}

-- the state that a run goes by: what the two sides recover where state is kept, read up to this newest form, and else none
abbrev pub IsStateOf : (newest : Form) (keeping : Bool) (seen : Which → List ℕ) (m : StateMap) → Type 0
IsStateOf newest true seen m = RecoversIn newest (seen sides.A) (seen sides.B) m
IsStateOf newest false seen m = m ≡ map.empty

-- so it is where the disk keeps its model. Where no state is kept there is none, whatever the disk does
abbrev pub IsStateOn : (newest : Form) (keeping : Bool) (disk_honest : Type 0) (seen : Which → List ℕ) (m : StateMap) → Type 0
IsStateOn newest true disk_honest seen m = disk_honest → IsStateOf newest true seen m
IsStateOn newest false disk_honest seen m = IsStateOf newest false seen m

-- the items are those of the makefile where none is named, by what the files hold and whether there is a file of a name, in
-- its language and with what is defined before it
pub record AreUsualItems (world : World) (looks : List ℕ → Option FileLook) (given : Defined) (items : List Item) : Type 0 where
  pub file : List ℕ
  pub text : List ℕ
  pub is_makefile : IsUsualMakefile world looks file text
  pub read : TextItems world depth given file text (Ok items)

-- the items are those of the makefiles that are named, one behind the other, or else of the usual one
abbrev pub AreOwnItems : (world : World) (looks : List ℕ → Option FileLook) (named : List (List ℕ)) → Defined → (items : List Item) → Type 0
AreOwnItems world looks [] given items = AreUsualItems world looks given items
AreOwnItems world looks (name ∷ names) given items = AllItems world given (name ∷ names) (Ok items)

-- the tool's rules stand in front of these items
pub record AreBehindRules (world : World) (Own : List Item → Type 0) (given : Defined) (items : List Item) : Type 0 where
  pub rules : List Item
  pub own : List Item
  pub whole : items ≡ rules ++ own
  pub are_rules : AreRules world given own (Ok rules)
  pub are_own : Own own

abbrev pub WithRules : (reads : Bool) (world : World) (Own : List Item → Type 0) → Defined → (items : List Item) → Type 0
WithRules false world Own given items = Own items
WithRules true world Own given items = AreBehindRules world Own given items

-- all items: those of the makefiles, behind the tool's rules where these are read
abbrev pub AreAllItems : (world : World) (looks : List ℕ → Option FileLook) → Makefiles → Defined → (items : List Item) → Type 0
AreAllItems world looks makefiles given =
    WithRules (reads_rules makefiles given.language) world (AreOwnItems world looks makefiles.named given) given

-- the items that count: all, or what is left of them where the rules of some names are ignored
abbrev pub AreItems : (world : World) (looks : List ℕ → Option FileLook) → Makefiles → Defined → (items : List Item) → Type 0
AreItems world looks makefiles given = WithoutRulesOf makefiles.old given (AreAllItems world looks makefiles given)

-- the graph of these items for the targets that are named, with this state, in the language of the profile
pub record IsGraphOf (profile : Profile) (definitions environment : List Variable) (targets : List (List ℕ)) (looks : List ℕ → Option FileLook)
    (items : List Item) (state : StateMap) (graph : Graph) : Type 0 where
  pub inputs : Inputs
  pub are_inputs : AreInputs (first_defined profile definitions environment) items looks (map.get state) inputs
  pub is_graph : IsGraph inputs targets graph
  pub macros : defined_by graph.macros ≡ behind_items (first_defined profile definitions environment) items

-- so it is, and each name in it has a file, or something makes it
pub record IsWholeGraphOf (profile : Profile) (definitions environment : List Variable) (targets : List (List ℕ)) (looks : List ℕ → Option FileLook)
    (items : List Item) (state : StateMap) (graph : Graph) : Type 0 where
  pub is_graph : IsGraphOf profile definitions environment targets looks items state graph
  pub all_made : graph.unmade.items ≡ []

-- the graph by which targets are judged: where all are to be made, nothing is recorded of any of them
abbrev pub judged_graph : (all : Bool) → Graph → Graph
judged_graph true graph = record graph { state = map.empty }
judged_graph false graph = graph
