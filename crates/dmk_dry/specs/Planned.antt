-- A dry run from the text of makefiles to the listing: each stage is that of its crate.
use Rattle.std.specs.Prelude.{◌≡◌, ◌||◌, ℕ, Bool, false, List, [], map as each, Option}
use Rattle.mk_profile.specs.declared.profile.Profile.{Profile}
use Rattle.mk_eval.specs.Output.{World}
use Rattle.mk_names.specs.Names.{name_at}
use Rattle.mk_reader.specs.declared.item.Item.{Item}
use Rattle.mk_plan.specs.Passage.{Passage}
use Rattle.mk_plan.specs.declared.telling.Telling.{Telling}
use Rattle.mk_nodes.specs.declared.graph.Graph.{Graph}
use Rattle.st_disk.specs.declared.which.Which.{Which}
use Rattle.st_state.specs.State.{StateMap}
use Rattle.dmk_reading.specs.Definitions.{first_defined}
use Rattle.dmk_reading.specs.Keeping.{keeps, kept_form}
use Rattle.dmk_dry.specs.AlwaysRun.{lines_run_always}
use Rattle.dmk_reading.specs.Lost.{goes_without}
use Rattle.dmk_reading.specs.Passing.{IsListing, lists_any}
use Rattle.dmk_dry.specs.Listing.{listing_text}
use Rattle.dmk_reading.specs.declared.makefiles.Makefiles.{Makefiles}
use Rattle.dmk_dry.specs.declared.planning.DryRun.{DryRun}
use Rattle.bd_lists.specs.declared.recipe.Variable.{Variable}
use Rattle.dmk_reading.specs.Planned.{IsStateOn, AreItems, IsGraphOf, judged_graph}
use Rattle.mk_nodes.specs.declared.file_look.FileLook.{FileLook}

-- the graph of these items, in which each name has a file, or something makes it, unless a dry run goes on without names
pub record IsListedGraphOf (profile : Profile) (definitions environment : List Variable) (targets : List (List ℕ)) (goes_on : Bool)
    (looks : List ℕ → Option FileLook) (items : List Item) (state : StateMap) (graph : Graph) : Type 0 where
  pub is_graph : IsGraphOf profile definitions environment targets looks items state graph
  pub all_made : goes_without profile goes_on ≡ false → graph.unmade.items ≡ []

-- a dry run of these items has this to tell, where the disk is honest by a state that its sides recover; `dropped`
-- says that soft edges make a cycle and don't count, and `unmade` are the names that have no file and that nothing makes, which a dry
-- run that doesn't go on without them has none of. What is recorded of a target counts where state is kept, and where all are to be
-- made that nothing is
pub record IsPlanned (profile : Profile) (definitions environment : List Variable) (targets : List (List ℕ)) (all goes_on : Bool) (looks : List ℕ → Option FileLook)
    (disk_honest : Type 0) (seen : Which → List ℕ) (items : List Item)
    (plan : List Passage) (dropped : Bool) (unmade : List (List ℕ)) : Type 0 where
  pub state : StateMap
  pub is_state : IsStateOn (kept_form profile) (keeps environment items) disk_honest seen state
  pub graph : Graph
  pub is_graph : IsListedGraphOf profile definitions environment targets goes_on looks items state graph
  pub lists : IsListing (all || keeps environment items) (judged_graph all graph) plan
  pub soft : dropped ≡ graph.soft_dropped
  pub names : unmade ≡ each (name_at graph.names) graph.unmade.items

-- what is told of a dry run: the text of what it lists, as much as is wanted, whether it lists a recipe, which lines are run all the
-- same, and which names nothing makes
pub record Tells (profile : Profile) (definitions environment : List Variable) (targets : List (List ℕ)) (all goes_on : Bool) (looks : List ℕ → Option FileLook)
    (disk_honest : Type 0) (seen : Which → List ℕ) (items : List Item) (telling : Telling) (recipes : Bool) (run : DryRun) : Type 0 where
  pub plan : List Passage
  pub planned : IsPlanned profile definitions environment targets all goes_on looks disk_honest seen items plan run.soft_dropped
      (each (λ u. u.name) run.unmade.items)
  pub text : run.text.items ≡ listing_text telling recipes plan
  pub any : run.lists_any ≡ lists_any plan
  pub always : run.always.items ≡ lines_run_always telling recipes plan

-- what a dry run has to tell, for the makefile that is found by these files and looks, whether soft edges make a cycle, and which names
-- nothing makes
pub record Plans (world : World) (looks : List ℕ → Option FileLook) (makefiles : Makefiles)
    (profile : Profile) (definitions environment : List Variable) (targets : List (List ℕ)) (all goes_on : Bool) (disk_honest : Type 0) (seen : Which → List ℕ) (plan : List Passage) (dropped : Bool)
    (unmade : List (List ℕ)) : Type 0 where
  pub items : List Item
  pub are_items : AreItems world looks makefiles (first_defined profile definitions environment) items
  pub planned : IsPlanned profile definitions environment targets all goes_on looks disk_honest seen items plan dropped unmade
