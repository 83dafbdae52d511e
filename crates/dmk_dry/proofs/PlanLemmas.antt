-- The stages of a plan put together.
use Rattle.std.proofs.Common.{◌≡◌, ◌⊎◌, ◌||◌, inl, inr, ℕ, Bool, List, [], Option, Result, Ok, Err, IfOk, IfErr, refl, sym, ap, subst, ◌∙◌, true, false}
use Rattle.std.specs.Prelude.{map as each}
use Rattle.mk_names.specs.Names.{name_at}
use Rattle.std.specs.FinMap as map
use Rattle.mk_plan.specs.declared.fault.RecipeFault.{RecipeFault}
use Rattle.mk_reader.specs.declared.item.Item.{Item}
use Rattle.mk_profile.specs.declared.profile.Profile.{Profile}
use Rattle.mk_plan.specs.Passage.{Passage}
use Rattle.mk_plan.specs.declared.telling.Telling.{Telling}
use Rattle.mk_rules.specs.Faults.{IsRuleFault}
use Rattle.mk_rule_lines.specs.declared.fault.RuleFault.{RuleFault}
use Rattle.mk_nodes.specs.declared.graph.Graph.{Graph}
use Rattle.mk_rules.specs.Limit.{node_limit}
use Rattle.st_disk.specs.declared.which.Which.{Which}
use Rattle.st_state.specs.State.{StateMap}
use Rattle.dmk_reading.specs.Definitions.{first_defined}
use Rattle.dmk_reading.specs.Keeping.{keeps, kept_form}
use Rattle.dmk_reading.specs.Lost.{goes_without}
use Rattle.dmk_dry.specs.AlwaysRun.{lines_run_always}
use Rattle.dmk_reading.specs.Passing.{IsListing, lists_any}
use Rattle.dmk_dry.specs.Listing.{IsListingFault, listing_text}
use Rattle.dmk_reading.specs.Planned.{IsStateOn, IsGraphOf, judged_graph}
use Rattle.dmk_dry.specs.Planned.{IsListedGraphOf, Tells}
use Rattle.dmk_dry.specs.Faults.{IsPlanFault}
use Rattle.dmk_messages.specs.declared.fault.Fault.{Fault}
use Rattle.dmk_messages.specs.declared.fault.Fault.TheVariants as fault
use Rattle.dmk_dry.specs.declared.planning.DryRun.{DryRun}
use Rattle.bd_lists.specs.declared.recipe.Variable.{Variable}
use Rattle.mk_nodes.specs.declared.file_look.FileLook.{FileLook}

-- a graph of items that is whole unless a dry run goes on without names is one to be listed
pub listed_so : (profile : Profile) (definitions environment : List Variable) (targets : List (List ℕ)) (goes_on without : Bool) (items : List Item)
    (state : StateMap) (Allowed : (List ℕ → Option FileLook) → Type 0) (got : Result Graph Fault) → without ≡ goes_without profile goes_on →
    IfOk got (λ graph. (looks : List ℕ → Option FileLook) → Allowed looks → IsGraphOf profile definitions environment targets looks items state graph) →
    (without ≡ false → IfOk got (λ graph. graph.unmade.items ≡ [])) →
    IfOk got (λ graph. (looks : List ℕ → Option FileLook) → Allowed looks → IsListedGraphOf profile definitions environment targets goes_on looks items state graph)
listed_so profile definitions environment targets goes_on without items state Allowed (Ok graph) same is made =
    λ looks may. record { is_graph = is looks may; all_made = λ stays. made (same ∙ stays) }
listed_so profile definitions environment targets goes_on without items state Allowed (Err f) same is made = tt

judged_dropped : (all : Bool) (graph : Graph) → (judged_graph all graph).soft_dropped ≡ graph.soft_dropped
judged_dropped true graph = refl
judged_dropped false graph = refl

judged_names : (all : Bool) (graph : Graph) → each (name_at (judged_graph all graph).names) (judged_graph all graph).unmade.items ≡ each (name_at graph.names) graph.unmade.items
judged_names true graph = refl
judged_names false graph = refl

module _ (profile : Profile) (definitions environment : List Variable) (targets : List (List ℕ)) (all goes_on : Bool) (looks : List ℕ → Option FileLook)
    (disk_honest : Type 0) (seen : Which → List ℕ) (items : List Item) (keeping : Bool) (is_keeping : keeping ≡ keeps environment items)
    (state : StateMap) (found : IsStateOn (kept_form profile) keeping disk_honest seen state) where
  kept : IsStateOn (kept_form profile) (keeps environment items) disk_honest seen state
  kept = subst (λ k. IsStateOn (kept_form profile) k disk_honest seen state) is_keeping found

  pub rules_fault : (refuses : List ℕ → Type 0) (Allowed : (List ℕ → Option FileLook) → Type 0) → Allowed looks → (got : Fault) →
      ((got ≡ fault.OutOfMemory) ⊎ ((f : RuleFault) × (got ≡ fault.Rules f)
      × ((ts : List ℕ → Option FileLook) → Allowed ts → IsRuleFault (first_defined profile definitions environment) items ts (map.get state) refuses targets (node_limit profile) f))) →
      IsPlanFault profile definitions environment targets all goes_on looks refuses disk_honest seen items got
  rules_fault refuses Allowed may got (inl is) = subst (IsPlanFault profile definitions environment targets all goes_on looks refuses disk_honest seen items) (sym is) tt
  rules_fault refuses Allowed may got (inr (f, is, meets)) =
      subst (IsPlanFault profile definitions environment targets all goes_on looks refuses disk_honest seen items) (sym is) (state, kept, meets looks may)

  -- listed is the graph by which targets are judged
  module _ (graph : Graph) (is_graph : IsListedGraphOf profile definitions environment targets goes_on looks items state graph)
      (judged : Graph) (is_judged : judged ≡ judged_graph all graph) (counting : Bool) (counts : counting ≡ all || keeping) where
    counted : counting ≡ all || keeps environment items
    counted = counts ∙ ap (λ k. all || k) is_keeping

    pub recipes_fault : (refuses : List ℕ → Type 0) (got : Fault) → ((f : RecipeFault) × (got ≡ fault.Recipe f) × IsListingFault counting judged f) →
        IsPlanFault profile definitions environment targets all goes_on looks refuses disk_honest seen items got
    recipes_fault refuses got (f, is, meets) =
        subst (IsPlanFault profile definitions environment targets all goes_on looks refuses disk_honest seen items) (sym is) (
          state,
          kept,
          (
            graph,
            is_graph,
            subst (λ k. IsListingFault k (judged_graph all graph) f) counted (subst (λ g. IsListingFault counting g f) is_judged meets),
          ),
        )

    pub told : (telling : Telling) (recipes : Bool) (run : DryRun) → ((plan : List Passage) × IsListing counting judged plan
        × (run.text.items ≡ listing_text telling recipes plan) × (run.lists_any ≡ lists_any plan)
        × (run.always.items ≡ lines_run_always telling recipes plan)) →
        run.soft_dropped ≡ judged.soft_dropped → each (λ u. u.name) run.unmade.items ≡ each (name_at judged.names) judged.unmade.items → Tells profile definitions environment targets all goes_on looks disk_honest seen items telling recipes run
    told telling recipes run (plan, lists, text, any, always) dropped named = record {
      plan = plan;
      planned = record {
        state = state;
        is_state = kept;
        graph = graph;
        is_graph = is_graph;
        lists = subst (λ k. IsListing k (judged_graph all graph) plan) counted (subst (λ g. IsListing counting g plan) is_judged lists);
        soft = dropped ∙ ap (λ g. g.soft_dropped) is_judged ∙ judged_dropped all graph;
        names = named ∙ ap (λ g. each (name_at g.names) g.unmade.items) is_judged ∙ judged_names all graph;
      };
      text = text;
      any = any;
      always = always;
    }

    pub recipes_result : (refuses : List ℕ → Type 0) (got : Result DryRun Fault) →
        IfErr got (λ g. (f : RecipeFault) × (g ≡ fault.Recipe f) × IsListingFault counting judged f) →
        IfErr got (IsPlanFault profile definitions environment targets all goes_on looks refuses disk_honest seen items)
    recipes_result refuses (Ok run) is = tt
    recipes_result refuses (Err f) is = recipes_fault refuses f is

    pub told_result : (telling : Telling) (recipes : Bool) (got : Result DryRun Fault) →
        IfOk got (λ run. (plan : List Passage) × IsListing counting judged plan × (run.text.items ≡ listing_text telling recipes plan)
        × (run.lists_any ≡ lists_any plan)
        × (run.always.items ≡ lines_run_always telling recipes plan)) → IfOk got (λ run. run.soft_dropped ≡ judged.soft_dropped) →
        IfOk got (λ run. each (λ u. u.name) run.unmade.items ≡ each (name_at judged.names) judged.unmade.items) →
        IfOk got (Tells profile definitions environment targets all goes_on looks disk_honest seen items telling recipes)
    told_result telling recipes (Ok run) listing dropped named = told telling recipes run listing dropped named
    told_result telling recipes (Err f) listing dropped named = tt
