-- For which names a tree is asked while another one is looked up.
use Rattle.std.specs.Prelude.{◌≡◌, ◌⊎◌, ℕ, true, false, List, [], Option, Some}
use Rattle.st_records.specs.declared.record.Entry.{Entry}
use Rattle.mk_nodes.specs.Prerequisites.{IsTextAmong, inputs_of, own_recipes, found_source, implicit_source, hidden_in}
use Rattle.mk_nodes.specs.Groups.{others_in}
use Rattle.mk_rule_lines.specs.Explicit.{is_phony}
use Rattle.mk_rule_lines.specs.Rules.{has}
use Rattle.mk_makefile.specs.declared.form.Form.{Form}
use Rattle.mk_makefile.specs.declared.form.Source.{Source}
use Rattle.mk_rule_lines.specs.declared.rule_line.RuleLine.{RuleLine}
use Rattle.mk_makefile.specs.declared.table.TargetTable.{TargetTable}
use Rattle.mk_rule_lines.specs.declared.fault.RuleFault.{RuleFault}
use Rattle.mk_rule_lines.specs.declared.fault.RuleFault.TheVariants as fault
use Rattle.mk_sources.specs.Search.{IsSearched}
use Rattle.mk_nodes.specs.declared.file_look.FileLook.{FileLook}

-- where no line has a recipe for a name and it isn't phony, the search for its source reaches n
abbrev pub IsSourceAsked : TargetTable → (allowed : (List ℕ → Option FileLook) → Type 0) → List Form → (steps : ℕ) → List RuleLine → (name n : List ℕ) → Type 0
IsSourceAsked targets allowed forms steps lines name n =
    (is_phony lines name ≡ false) × (own_recipes lines name ≡ []) × IsSearched targets allowed forms steps name n

-- the rule that is found for a name makes it by the run for another one, and the search for the source of that one reaches n
pub record IsLeaderAsked (targets : TargetTable) (allowed : (List ℕ → Option FileLook) → Type 0) (forms : List Form) (steps : ℕ) (lines : List RuleLine)
    (entries : (name : List ℕ) → Option Entry) (name n : List ℕ) : Type 0 where
  pub source : Source
  pub found : (looks : List ℕ → Option FileLook) → allowed looks → found_source (inputs_of lines entries looks) name ≡ Some source
  pub leader : List ℕ
  pub leader_is : source.leader ≡ Some leader
  pub searched : IsSourceAsked targets allowed forms steps lines leader n

-- n isn't phony, and is made beside the name
abbrev pub IsOtherAsked : (allowed : (List ℕ → Option FileLook) → Type 0) → List RuleLine → (entries : (name : List ℕ) → Option Entry) → (name n : List ℕ) → Type 0
IsOtherAsked allowed lines entries name n =
    ((looks : List ℕ → Option FileLook) → allowed looks → has n (others_in (implicit_source (inputs_of lines entries looks) name)) ≡ true)
    × (is_phony lines n ≡ false)

-- a name that can't be looked at while another is looked up: a hidden prerequisite that is text, or, where the other isn't phony,
-- that name itself, and where no line has a recipe for it, what the search for its source has reached; or what is asked
-- for since its rule has several targets
abbrev pub IsAsked : TargetTable → (allowed : (List ℕ → Option FileLook) → Type 0) → List Form → (steps : ℕ) → List RuleLine → (entries : (name : List ℕ) → Option Entry) →
    (name n : List ℕ) → Type 0
IsAsked targets allowed forms steps lines entries name n =
    ((is_phony lines name ≡ false) × (n ≡ name))
    ⊎ (IsTextAmong (hidden_in (entries name)) n
    ⊎ (IsSourceAsked targets allowed forms steps lines name n
    ⊎ (IsLeaderAsked targets allowed forms steps lines entries name n ⊎ IsOtherAsked allowed lines entries name n)))

-- the fault of looking up a name
abbrev pub IsLookUpFault : TargetTable → (allowed : (List ℕ → Option FileLook) → Type 0) → (refuses : List ℕ → Type 0) → List Form → (steps : ℕ) → List RuleLine →
    (entries : (name : List ℕ) → Option Entry) → (name : List ℕ) → RuleFault → Type 0
IsLookUpFault targets allowed refuses forms steps lines entries name fault.OutOfMemory = Unit {0}
IsLookUpFault targets allowed refuses forms steps lines entries name (fault.Tree n) = IsAsked targets allowed forms steps lines entries name n × refuses n
IsLookUpFault targets allowed refuses forms steps lines entries name _ = ⊥

-- the fault of looking for a source of a name
abbrev pub IsFoundFault : TargetTable → (allowed : (List ℕ → Option FileLook) → Type 0) → (refuses : List ℕ → Type 0) → List Form → (steps : ℕ) → List RuleLine → (name : List ℕ) → RuleFault → Type 0
IsFoundFault targets allowed refuses forms steps lines name fault.OutOfMemory = Unit {0}
IsFoundFault targets allowed refuses forms steps lines name (fault.Tree n) = IsSourceAsked targets allowed forms steps lines name n × refuses n
IsFoundFault targets allowed refuses forms steps lines name _ = ⊥

-- the fault of looking for what an implicit rule makes a name from
abbrev pub IsImplicitFault : TargetTable → (allowed : (List ℕ → Option FileLook) → Type 0) → (refuses : List ℕ → Type 0) → List Form → (steps : ℕ) → List RuleLine →
    (entries : (name : List ℕ) → Option Entry) → (name : List ℕ) → RuleFault → Type 0
IsImplicitFault targets allowed refuses forms steps lines entries name fault.OutOfMemory = Unit {0}
IsImplicitFault targets allowed refuses forms steps lines entries name (fault.Tree n) =
    (IsSourceAsked targets allowed forms steps lines name n ⊎ IsLeaderAsked targets allowed forms steps lines entries name n) × refuses n
IsImplicitFault targets allowed refuses forms steps lines entries name _ = ⊥

-- the fault of looking at some names, of which phony ones aren't looked at
abbrev pub IsOthersFault : (refuses : List ℕ → Type 0) → List RuleLine → (names : List (List ℕ)) → RuleFault → Type 0
IsOthersFault refuses lines names fault.OutOfMemory = Unit {0}
IsOthersFault refuses lines names (fault.Tree n) = (has n names ≡ true) × (is_phony lines n ≡ false) × refuses n
IsOthersFault refuses lines names _ = ⊥
