-- What each refusal says of a makefile, its files and its state.
use Rattle.std.specs.Prelude.{◌≡◌, ℕ, ◌<◌, ◌≤◌, ◌⊎◌, Bool, true, false, List, [], ◌∷◌, ◌++◌, length, map, take, slice_get, Option, Some, None, IfSome}
use Rattle.std.specs.List.{list_all}
use Rattle.mk_graph.specs.Cycle.{IsCycle}
use Rattle.mk_names.specs.Names.{name_at, has_name}
use Rattle.mk_graph.specs.Numbering.{IsNumbering}
use Rattle.mk_reader.specs.declared.item.Item.{Item}
use Rattle.st_records.specs.declared.record.Entry.{Entry}
use Rattle.mk_makefile.specs.Doubles.{HasBothKinds}
use Rattle.mk_rule_lines.specs.Explicit.{is_phony}
use Rattle.mk_makefile.specs.Forms.{forms_of}
use Rattle.mk_settings.specs.Goals.{goals_of}
use Rattle.mk_nodes.specs.Chain.{steps_of}
use Rattle.mk_nodes.specs.Graph.{AreRequired}
use Rattle.mk_sources.specs.Search.{IsChainedTo}
use Rattle.mk_nodes.specs.Groups.{others_in}
use Rattle.mk_macros.specs.Ranks.{Defined}
use Rattle.mk_makefile.specs.InForce.{AreLinesInForce}
use Rattle.mk_rule_lines.specs.Lines.{IsLinesFault}
use Rattle.mk_nodes.specs.Prerequisites.{Inputs, IsTextAmong, seen_looks, own_recipes, found_source, implicit_source, is_target, is_there, hidden_of, prerequisites_of, is_made}
use Rattle.mk_rule_lines.specs.Pools.{HasPoolFault}
use Rattle.mk_rule_lines.specs.Rules.{has, targets_by, suffixes_of}
use Rattle.mk_makefile.specs.Source.{stem_of, source_at, source_of}
use Rattle.mk_makefile.specs.Supported.{HasRefusedLine}
use Rattle.mk_makefile.specs.Table.{HasTwoRecipes}
use Rattle.mk_rule_lines.specs.declared.fault.Unmade.{Unmade}
use Rattle.mk_rule_lines.specs.declared.fault.RuleFault.{RuleFault}
use Rattle.mk_rule_lines.specs.declared.fault.RuleFault.TheVariants as fault
use Rattle.mk_makefile.specs.declared.form.Form.{Form}
use Rattle.mk_makefile.specs.declared.form.Source.{Source}
use Rattle.mk_rule_lines.specs.declared.rule_line.RuleLine.{RuleLine}
use Rattle.mk_nodes.specs.declared.file_look.FileLook.{FileLook}

-- the names of the graph for these goals
abbrev pub AreNames : Inputs → (named names : List (List ℕ)) → Type 0
AreNames inputs named names = IsNumbering (prerequisites_of inputs) (goals_of inputs.lines named) names

-- a name of the graph that has the other one among its prerequisites
abbrev pub IsNeededBy : Inputs → (names : List (List ℕ)) (name user : List ℕ) → Type 0
IsNeededBy inputs names name user = (has_name names user ≡ true) × (has name (prerequisites_of inputs user) ≡ true)

-- a name of the graph that has no file, and that nothing makes; by which name it is told to be needed, by that one it is
pub record HasUnmade (inputs : Inputs) (named : List (List ℕ)) (told : Unmade) : Type 0 where
  pub names : List (List ℕ)
  pub are_names : AreNames inputs named names
  pub is_name : has_name names told.name ≡ true
  pub unmade : is_made inputs told.name ≡ false
  pub needed : IfSome told.needed_by (IsNeededBy inputs names told.name)

-- these names are a cycle of hard and order-only prerequisites in the graph, from its name of least number on
pub record HasNamedCycle (inputs : Inputs) (named cycle : List (List ℕ)) : Type 0 where
  pub names : List (List ℕ)
  pub are_names : AreNames inputs named names
  pub required : List (List ℕ)
  pub are_required : AreRequired inputs names required
  pub numbers : List ℕ
  pub is_cycle : IsCycle required numbers
  pub told : cycle ≡ map (name_at names) numbers

-- the name is the node's own, which isn't phony
abbrev pub IsItself : List RuleLine → (node name : List ℕ) → Type 0
IsItself lines node name = (is_phony lines node ≡ false) × (name ≡ node)

-- the search for a source of the node reaches the name: the node isn't phony, no line has a recipe for it, the name is among those of a
-- candidate of which the ones before it are there, no line makes it, and no candidate of an earlier form is there
pub record IsReachedFrom (inputs : Inputs) (node name : List ℕ) : Type 0 where
  pub no_phony : is_phony inputs.lines node ≡ false
  pub no_recipe : own_recipes inputs.lines node ≡ []
  pub place : ℕ
  pub form : Form
  pub stem : List ℕ × List ℕ
  pub at : slice_get (forms_of (suffixes_of inputs.lines) inputs.lines) place ≡ Some form
  pub fits : stem_of form node ≡ Some stem
  pub before : List (List ℕ)
  pub behind : List (List ℕ)
  pub is : (source_at form stem).names ≡ before ++ name ∷ behind
  pub there : list_all (is_there inputs) before ≡ true
  pub no_target : is_target inputs.lines name ≡ false
  pub earlier : source_of (is_there inputs) (take place (forms_of (suffixes_of inputs.lines) inputs.lines)) node ≡ None

-- some search for a chain of rules that makes the node leads to the name: the node isn't phony, no line has a recipe for it, no
-- candidate is there, and no line makes the name
pub record IsLedToFrom (inputs : Inputs) (node name : List ℕ) : Type 0 where
  pub no_phony : is_phony inputs.lines node ≡ false
  pub no_recipe : own_recipes inputs.lines node ≡ []
  pub none : source_of (is_there inputs) (forms_of (suffixes_of inputs.lines) inputs.lines) node ≡ None
  pub no_target : is_target inputs.lines name ≡ false
  pub count : ℕ
  pub some : 0 < count
  pub few : count ≤ steps_of inputs.lines
  pub leads : IsChainedTo (forms_of (suffixes_of inputs.lines) inputs.lines) count node name

-- the search for a source of the node asks for the name
abbrev pub IsSearchedFrom : Inputs → (node name : List ℕ) → Type 0
IsSearchedFrom inputs node name = IsReachedFrom inputs node name ⊎ IsLedToFrom inputs node name

-- the rule that is found for the node makes it by the run for another name, and the search for the source of that one reaches the name
pub record IsLeaderAskedFrom (inputs : Inputs) (node name : List ℕ) : Type 0 where
  pub source : Source
  pub found : found_source inputs node ≡ Some source
  pub leader : List ℕ
  pub leader_is : source.leader ≡ Some leader
  pub searched : IsSearchedFrom inputs leader name

-- the name isn't phony, and is made beside the node
abbrev pub IsOtherOf : Inputs → (node name : List ℕ) → Type 0
IsOtherOf inputs node name = (has name (others_in (implicit_source inputs node)) ≡ true) × (is_phony inputs.lines name ≡ false)

-- why a name is looked at while another is looked up: it is that one, which isn't phony, a hidden prerequisite of it that is text,
-- what the search for its source reaches, or what is asked for since its rule has several targets
abbrev pub IsAskedOf : Inputs → (node name : List ℕ) → Type 0
IsAskedOf inputs node name =
    IsItself inputs.lines node name
    ⊎ (IsTextAmong (hidden_of inputs node) name
    ⊎ (IsSearchedFrom inputs node name ⊎ (IsLeaderAskedFrom inputs node name ⊎ IsOtherOf inputs node name)))

-- the name is looked at while one of the graph is looked up
pub record IsLookedAt (inputs : Inputs) (named : List (List ℕ)) (name : List ℕ) : Type 0 where
  pub node : List ℕ
  pub is_name : (names : List (List ℕ)) → AreNames inputs named names → has_name names node ≡ true
  pub asked : IsAskedOf inputs node name

-- the fault of these inputs, for the goals that are named. A name that can't be looked at is one that the tree refuses; that
-- memory was wanted stands outside the inputs
abbrev pub IsGraphFault : Inputs → (refuses : List ℕ → Type 0) → (named : List (List ℕ)) → (limit : ℕ) → RuleFault → Type 0
IsGraphFault inputs refuses named limit fault.OutOfMemory = Unit {0}
IsGraphFault inputs refuses named limit fault.NoTarget = goals_of inputs.lines named ≡ []
IsGraphFault inputs refuses named limit (fault.NoRule told) = HasUnmade inputs named told
IsGraphFault inputs refuses named limit (fault.TwoRecipes name line) =
    (suffix_rules : Bool) × HasTwoRecipes (targets_by suffix_rules (suffixes_of inputs.lines)) inputs.lines name line
IsGraphFault inputs refuses named limit (fault.BothKinds name line) = HasBothKinds inputs.lines name line
IsGraphFault inputs refuses named limit (fault.Cycle cycle) = HasNamedCycle inputs named cycle.names
IsGraphFault inputs refuses named limit fault.TooMany = (names : List (List ℕ)) → AreNames inputs named names → limit < length names
IsGraphFault inputs refuses named limit (fault.Macro f) = ⊥
IsGraphFault inputs refuses named limit (fault.Unsupported what line) = HasRefusedLine inputs.lines what line
IsGraphFault inputs refuses named limit (fault.Pool told) = HasPoolFault inputs.lines told
IsGraphFault inputs refuses named limit (fault.Tree name) = IsLookedAt inputs named name × refuses name

-- the inputs that a makefile, looks at files and a state give
pub record AreInputs (given : Defined) (items : List Item) (looks : (name : List ℕ) → Option FileLook)
    (entries : (name : List ℕ) → Option Entry) (inputs : Inputs) : Type 0 where
  pub lines : AreLinesInForce given items inputs.lines
  pub looks_are : inputs.looks ≡ seen_looks inputs.lines looks
  pub entries_are : inputs.entries ≡ entries

-- the fault of a makefile, looks at files and a state: a macro's, met while the lines are expanded, or that of what they
-- give
abbrev pub IsRuleFault : (given : Defined) (items : List Item) (looks : (name : List ℕ) → Option FileLook)
    (entries : (name : List ℕ) → Option Entry) (refuses : List ℕ → Type 0) (named : List (List ℕ)) (limit : ℕ) → RuleFault → Type 0
IsRuleFault given items looks entries refuses named limit f =
    IsLinesFault given items f ⊎ ((inputs : Inputs) × AreInputs given items looks entries inputs × IsGraphFault inputs refuses named limit f)
