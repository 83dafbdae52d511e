-- What is found of all names, in terms of the inputs.
use Rattle.std.proofs.Common.{◌≡◌, ℕ, ◌<◌, ◌≤◌, Bool, true, false, not, List, [], length, inl, inr, Option, Some, sym, ap, subst, ◌∙◌}
use Rattle.std.specs.Prelude.{take, slice_get}
use Rattle.std.specs.List.{list_all}
use Rattle.mk_names.specs.Names.{has_name}
use Rattle.mk_graph.specs.Numbering.{IsNumbering, AreDescribed}
use Rattle.mk_graph.specs.NumberingFault.{IsNumberingFault}
use Rattle.mk_graph.specs.declared.numbering.NumberingFault.{NumberingFault}
use Rattle.mk_graph.specs.declared.numbering.NumberingFault.TheVariants.{TooMany, Source}
use Rattle.mk_lines.specs.Text.{is_empty}
use Rattle.st_records.specs.declared.record.Entry.{Entry}
use Rattle.mk_rule_lines.specs.Explicit.{explicit_targets, is_phony}
use Rattle.mk_rules.specs.Faults.{IsReachedFrom, IsLedToFrom, IsSearchedFrom, IsAskedOf}
use Rattle.mk_makefile.specs.Forms.{forms_of}
use Rattle.mk_rules.specs.Found.{IsFindingFault}
use Rattle.mk_sources.specs.Asked.{IsAsked, IsLookUpFault}
use Rattle.mk_nodes.specs.Prerequisites.{inputs_of, own_recipes, is_target, prerequisites_of}
use Rattle.mk_rule_lines.specs.Rules.{has, places, targets_by, suffixes_of}
use Rattle.mk_nodes.specs.Chain.{steps_of}
use Rattle.mk_sources.specs.Search.{IsLedTo, IsSearched, IsChainedTo}
use Rattle.mk_sources.specs.Source.{IsReached}
use Rattle.mk_makefile.specs.Source.{source_of}
use Rattle.mk_makefile.specs.Table as table
use Rattle.mk_sources.specs.There as sources
use Rattle.mk_rule_lines.specs.declared.fault.RuleFault.{RuleFault}
use Rattle.mk_rule_lines.specs.declared.fault.RuleFault.TheVariants as fault
use Rattle.mk_makefile.specs.declared.form.Form.{Form}
use Rattle.mk_rule_lines.specs.declared.rule_line.RuleLine.{RuleLine}
use Rattle.mk_makefile.specs.declared.table.TargetTable.{TargetTable}
use Rattle.mk_sources.proofs.LookupLemmas.{same_there}
use Rattle.mk_sources.proofs.RuleLemmas.{any_place}
use Rattle.mk_nodes.specs.declared.file_look.FileLook.{FileLook}

module _ (lines : List RuleLine) (targets : TargetTable)
    (named : (name : List ℕ) → (table.named_at targets name).lines ≡ places (λ l. has name (targets_by false (suffixes_of lines) l)) 0 lines) where
  -- a name is a target in the table where it is one of the lines
  pub target_is : (name : List ℕ) → table.is_named (table.named_at targets name) ≡ is_target lines name
  target_is name =
      ap (λ (ns : List ℕ). not (is_empty ns)) (named name) ∙ any_place (λ (l : RuleLine). has name (explicit_targets lines l)) 0 lines

module _ (lines : List RuleLine) (targets : TargetTable)
    (named : (name : List ℕ) → (table.named_at targets name).lines ≡ places (λ l. has name (targets_by false (suffixes_of lines) l)) 0 lines)
    (forms : List Form) (all_forms : forms ≡ forms_of (suffixes_of lines) lines) (steps : ℕ) (few : steps ≡ steps_of lines) (entries : (name : List ℕ) → Option Entry)
    (allowed : (List ℕ → Option FileLook) → Type 0) (looks : List ℕ → Option FileLook) (now : allowed looks) where
  reached : (node name : List ℕ) → is_phony lines node ≡ false → own_recipes lines node ≡ [] → IsReached targets allowed forms node name →
      IsReachedFrom (inputs_of lines entries looks) node name
  reached node name no_phony none r = record {
    no_phony = no_phony;
    no_recipe = none;
    place = r.place;
    form = r.form;
    stem = r.stem;
    at = subst (λ (fs : List Form). slice_get fs r.place ≡ Some r.form) all_forms r.at;
    fits = r.fits;
    before = r.first.before;
    behind = r.first.behind;
    is = r.first.is;
    there =
        ap (λ (there : List ℕ → Bool). list_all there r.first.before) (sym (same_there lines targets named entries looks)) ∙ r.first.there looks now;
    no_target = sym (target_is lines targets named name) ∙ r.first.no_target;
    earlier =
        ap (λ (there : List ℕ → Bool). source_of there (take r.place (forms_of (suffixes_of lines) lines)) node) (sym (same_there lines targets named entries looks))
        ∙ ap (λ (fs : List Form). source_of (sources.is_there targets looks) (take r.place fs) node) (sym all_forms) ∙ r.earlier looks now;
  }

  led_to : (node name : List ℕ) → is_phony lines node ≡ false → own_recipes lines node ≡ [] → IsLedTo targets allowed forms steps node name →
      IsLedToFrom (inputs_of lines entries looks) node name
  led_to node name no_phony none r = record {
    no_phony = no_phony;
    no_recipe = none;
    none =
        ap (λ (there : List ℕ → Bool). source_of there (forms_of (suffixes_of lines) lines) node) (sym (same_there lines targets named entries looks))
        ∙ ap (λ (fs : List Form). source_of (sources.is_there targets looks) fs node) (sym all_forms) ∙ r.none looks now;
    no_target = sym (target_is lines targets named name) ∙ r.no_target;
    count = r.count;
    some = r.some;
    few = subst (λ (n : ℕ). r.count ≤ n) few r.few;
    leads = subst (λ (fs : List Form). IsChainedTo fs r.count node name) all_forms r.leads;
  }

  searched : (node name : List ℕ) → is_phony lines node ≡ false → own_recipes lines node ≡ [] → IsSearched targets allowed forms steps node name →
      IsSearchedFrom (inputs_of lines entries looks) node name
  searched node name no_phony none (inl r) = inl (reached node name no_phony none r)
  searched node name no_phony none (inr r) = inr (led_to node name no_phony none r)

  asked : (node name : List ℕ) → IsAsked targets allowed forms steps lines entries node name → IsAskedOf (inputs_of lines entries looks) node name
  asked node name (inl own) = inl own
  asked node name (inr (inl hidden)) = inr (inl hidden)
  asked node name (inr (inr (inl (no_phony, none, r)))) = inr (inr (inl (searched node name no_phony none r)))
  asked node name (inr (inr (inr (inl led)))) =
      let (no_phony, none, r) = led.searched in
      inr (inr (inr (inl (record {
        source = led.source;
        found = led.found looks now;
        leader = led.leader;
        leader_is = led.leader_is;
        searched = searched led.leader name no_phony none r;
      }))))
  asked node name (inr (inr (inr (inr (among, no_phony))))) = inr (inr (inr (inr (among looks now, no_phony))))

  -- a name that can't be looked up is one that the goals lead to
  pub finding_fault : (refuses : List ℕ → Type 0) (goals : List (List ℕ)) (limit : ℕ) (node : List ℕ) (f : RuleFault) →
      IsLookUpFault targets allowed refuses forms steps lines entries node f →
      ((names : List (List ℕ)) → IsNumbering (prerequisites_of (inputs_of lines entries looks)) goals names → has_name names node ≡ true) →
      IsFindingFault (inputs_of lines entries looks) refuses goals limit f
  finding_fault refuses goals limit node fault.OutOfMemory meets is = tt
  finding_fault refuses goals limit node (fault.Tree name) meets is =
      (record { node = node; is_name = is; asked = asked node name meets.0 }, meets.1)
  finding_fault refuses goals limit node fault.TooMany meets is = λ names are. absurd meets
  finding_fault refuses goals limit node _ meets is = meets

-- what the faults of the numbering say
module _ {F : Type 0} (allowed : (List ℕ → List (List ℕ)) → Type 0) (refuses : List ℕ → F → Type 0) (goals : List (List ℕ)) (limit : ℕ) (f : NumberingFault F) where
  pub too_many : f ≡ TooMany → IsNumberingFault allowed refuses goals limit f → (of : List ℕ → List (List ℕ)) → allowed of → (names : List (List ℕ)) →
      IsNumbering of goals names → limit < length names
  too_many is meets = subst (IsNumberingFault allowed refuses goals limit) is meets

  pub of_source : (cause : F) → f ≡ Source cause → IsNumberingFault allowed refuses goals limit f →
      (name : List ℕ) × refuses name cause
      × ((of : List ℕ → List (List ℕ)) → allowed of → (names : List (List ℕ)) → IsNumbering of goals names → has_name names name ≡ true)
  of_source cause is meets = subst (IsNumberingFault allowed refuses goals limit) is meets

-- what is known of each name for all looks that agree is known for these
pub described_at : {N : Type 0} (P Q : List ℕ → N → Type 0) (names : List (List ℕ)) (nodes : List N) →
    ((name : List ℕ) (node : N) → P name node → Q name node) → AreDescribed P names nodes → AreDescribed Q names nodes
described_at P Q names nodes follows are = λ n node at. follows _ node (are n node at)
