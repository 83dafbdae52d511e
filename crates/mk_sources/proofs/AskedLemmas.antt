-- Each look that fails is one of looking up a name.
use Rattle.std.proofs.Common.{◌≡◌, ◌⊎◌, ℕ, true, false, List, [], inl, inr, Option, Some, sym, ap, ◌∙◌}
use Rattle.st_records.specs.declared.record.Entry.{Entry}
use Rattle.mk_rule_lines.specs.Explicit.{is_phony}
use Rattle.mk_rule_lines.specs.Rules.{has}
use Rattle.mk_rule_lines.specs.declared.rule_line.RuleLine.{RuleLine}
use Rattle.mk_nodes.specs.Groups.{others_in}
use Rattle.mk_nodes.specs.Prerequisites.{inputs_of, found_source, implicit_source, own_recipes}
use Rattle.mk_sources.specs.Asked.{IsLookUpFault, IsFoundFault, IsImplicitFault, IsOthersFault}
use Rattle.mk_sources.specs.Search.{IsSearchFault}
use Rattle.mk_rule_lines.specs.declared.fault.RuleFault.{RuleFault}
use Rattle.mk_rule_lines.specs.declared.fault.RuleFault.TheVariants as fault
use Rattle.mk_makefile.specs.declared.form.Form.{Form}
use Rattle.mk_makefile.specs.declared.form.Source.{Source}
use Rattle.mk_makefile.specs.declared.table.TargetTable.{TargetTable}
use Rattle.mk_nodes.specs.declared.file_look.FileLook.{FileLook}

no_value : false ≡ true → ⊥
no_value is = cc

module _ (targets : TargetTable) (allowed : (List ℕ → Option FileLook) → Type 0) (refuses : List ℕ → Type 0) (forms : List Form) (steps : ℕ) (lines : List RuleLine) (name : List ℕ) where
  -- a source is looked for only where the name isn't phony, and no line has a recipe for it
  pub search_look : {A : Type 0} → ((is_phony lines name ≡ false) × (own_recipes lines name ≡ [])) ⊎ A → (A → false ≡ true) → (f : RuleFault) →
      IsSearchFault targets allowed refuses forms steps name f → IsFoundFault targets allowed refuses forms steps lines name f
  search_look (inl none) never fault.OutOfMemory meets = tt
  search_look (inl none) never (fault.Tree n) meets = ((none.0, none.1, meets.0), meets.1)
  search_look (inl none) never _ meets = meets
  search_look (inr beside) never f meets = absurd (no_value (never beside))

  module _ (entries : (name : List ℕ) → Option Entry) where
    -- each look that fails is one of looking for what an implicit rule makes the name from
    pub name_search : (f : RuleFault) → IsFoundFault targets allowed refuses forms steps lines name f → IsImplicitFault targets allowed refuses forms steps lines entries name f
    name_search fault.OutOfMemory meets = tt
    name_search (fault.Tree n) meets = (inl meets.0, meets.1)
    name_search _ meets = meets

    pub leader_search : (source : Source) → ((looks : List ℕ → Option FileLook) → allowed looks → found_source (inputs_of lines entries looks) name ≡ Some source) →
        (leader : List ℕ) → source.leader ≡ Some leader → (f : RuleFault) → IsFoundFault targets allowed refuses forms steps lines leader f →
        IsImplicitFault targets allowed refuses forms steps lines entries name f
    leader_search source found leader is fault.OutOfMemory meets = tt
    leader_search source found leader is (fault.Tree n) meets =
        (inr (record { source = source; found = found; leader = leader; leader_is = is; searched = meets.0 }), meets.1)
    leader_search source found leader is _ meets = meets

    -- each look that fails is one of looking up the name
    pub source_look : (f : RuleFault) → IsImplicitFault targets allowed refuses forms steps lines entries name f → IsLookUpFault targets allowed refuses forms steps lines entries name f
    source_look fault.OutOfMemory meets = tt
    source_look (fault.Tree n) (inl searched, refused) = (inr (inr (inl searched)), refused)
    source_look (fault.Tree n) (inr leader, refused) = (inr (inr (inr (inl leader))), refused)
    source_look _ meets = meets

    pub others_look : (source : Option Source) → ((looks : List ℕ → Option FileLook) → allowed looks → source ≡ implicit_source (inputs_of lines entries looks) name) →
        (f : RuleFault) → IsOthersFault refuses lines (others_in source) f → IsLookUpFault targets allowed refuses forms steps lines entries name f
    others_look source is fault.OutOfMemory meets = tt
    others_look source is (fault.Tree n) (among, no_phony, refused) =
        (inr (inr (inr (inr (λ looks now. ap (λ (s : Option Source). has n (others_in s)) (sym (is looks now)) ∙ among, no_phony)))), refused)
    others_look source is _ meets = meets
