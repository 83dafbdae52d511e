-- What a run leaves on its disk, where it ends with a report.
use Rattle.std.specs.Prelude.{◌≡◌, ◌≢◌, ◌||◌, ℕ, Bool, true, false, List, [], Option, length, IsTrue}
use Rattle.std.specs.List.{list_all}
use Rattle.mk_profile.specs.declared.profile.Profile.{Profile}
use Rattle.mk_reader.specs.declared.item.Item.{Item}
use Rattle.mk_nodes.specs.declared.graph.Graph.{Graph}
use Rattle.st_disk.specs.Crash.{Sides}
use Rattle.st_disk.specs.declared.which.Which.{Which}
use Rattle.st_records.specs.declared.record.Record.{Record}
use Rattle.st_state.specs.State.{StateMap}
use Rattle.st_records.specs.declared.version.Form.{Form}
use Rattle.st_records.specs.declared.version.Form.TheVariants as forms
use Rattle.st_recovery.specs.Stored.{AllRecoverIn}
use Rattle.bd_places.specs.declared.end.End.{End}
use Rattle.bd_lists.specs.declared.recipe.Variable.{Variable}
use Rattle.bd_flusher.specs.declared.site.receipt.Receipt.{Receipt}
use Rattle.jb_closing.specs.Agreement.{AreThoseOf}
use Rattle.jb_closing.specs.Closing.{AreTrueOf}
use Rattle.jb_closing.specs.Report.{ends_well}
use Rattle.dmk_reading.specs.Definitions.{first_defined}
use Rattle.dmk_reading.specs.declared.makefiles.Makefiles.{Makefiles}
use Rattle.dmk_reading.specs.Planned.{AreItems, IsGraphOf, IsStateOn, judged_graph}
use Rattle.dmk_reading.specs.Keeping.{keeps, kept_form}
use Rattle.dmk_parts.specs.Behind.{IsJudgedBehind}
use Rattle.dmk_parts.specs.Tried.{AreTried}
use Rattle.dmk_run.specs.Judged.{IsBorneOut}
use Rattle.dmk_run.specs.Known.{AreKnownDone}
use Rattle.dmk_parts.specs.declared.tried.Tried.{Tried}
use Rattle.dmk_reading.specs.Lost.{goes_without}
use Rattle.mk_eval.specs.Output.{World}
use Rattle.mk_nodes.specs.declared.file_look.FileLook.{FileLook}

-- how the nodes of a graph ended, which is true of what the disk holds: workers gathered the receipts of all that was told, each
-- once, among them that of the 'done' of each node that ended as built, and where the disk keeps its model every pair of crash
-- images, read up to the form that is written, recovers one state, and in every pair the node is done with that record's commands. At status 0 that state knows each
-- node that has a recipe as done
pub record IsMade (form : Form) (graph : Graph) (sound : Type 0) (sides : Sides) (status : ℕ) (ends : List End) : Type 0 where
  pub told : List Record
  pub receipts : List Receipt
  pub are_those : AreThoseOf told receipts
  pub are_true : AreTrueOf form told receipts sound sides graph.names ends
  pub left : StateMap
  pub recovers : sound → AllRecoverIn form left sides
  pub known : status ≡ 0 → AreKnownDone graph left

-- so it is of some ends of a graph: each of its nodes has one, and at status 0 each is up to date or was made, and whatever wasn't
-- built needn't be, where what is recorded of targets counts or doesn't, and where nothing is remade for a recipe that left its files as
-- they were, which is so of none where records have no marks. Where no state is kept nothing is said of what the disk holds then.
-- At a status other than 2 each name has a file, or something makes it
pub record HasEnded (form : Form) (graph : Graph) (counting keeping : Bool) (sound : Type 0) (sides : Sides) (status : ℕ) : Type 0 where
  pub ends : List End
  pub same : List Bool
  pub all : length ends ≡ length graph.nodes.items
  pub plain : form ≡ forms.Plain → same ≡ []
  pub unmade : status ≢ 2 → graph.unmade.items ≡ []
  pub well : status ≡ 0 → IsTrue (list_all ends_well ends)
  pub borne_out : status ≡ 0 → IsBorneOut counting graph ends same
  pub made : keeping ≡ true → IsMade form graph sound sides status ends

-- so a graph has ended, where these names were tried
pub record HasMade (form : Form) (graph : Graph) (counting keeping : Bool) (sound : Type 0) (sides : Sides) (status : ℕ) (tried : Tried) : Type 0 where
  pub ended : HasEnded form graph counting keeping sound sides status
  pub are_tried : AreTried graph ended.ends tried

-- so the graph of these items has, for the targets that are named, by the state that the disk recovers, if it is stored there, behind parts
-- of the run that tried some names. A run that doesn't go on without names has none that lacks a file and that nothing makes
pub record MakesItems (profile : Profile) (definitions environment : List Variable) (targets : List (List ℕ)) (all goes_on : Bool)
    (before : Tried) (looks : List ℕ → Option FileLook)
    (items : List Item) (stored keeping : Bool) (disk_honest : Type 0) (seen : Which → List ℕ)
    (status : ℕ) (sides : Sides) (tried : Tried) : Type 0 where
  pub state : StateMap
  pub is_state : IsStateOn (kept_form profile) stored disk_honest seen state
  pub graph : Graph
  pub is_graph : IsGraphOf profile definitions environment targets looks items state graph
  pub all_made : goes_without profile goes_on ≡ false → graph.unmade.items ≡ []
  pub judged : Graph
  pub is_judged : IsJudgedBehind before (all || keeping) (judged_graph all graph) judged
  pub made : HasMade (kept_form profile) judged (all || keeping) keeping disk_honest sides status tried

-- so it is for the items of the makefile that is found by these files and looks
pub record Makes (world : World) (looks : List ℕ → Option FileLook) (makefiles : Makefiles)
    (profile : Profile) (definitions environment : List Variable) (targets : List (List ℕ)) (all goes_on : Bool) (before : Tried)
    (disk_honest : Type 0) (seen : Which → List ℕ) (status : ℕ) (sides : Sides) (tried : Tried) : Type 0 where
  pub items : List Item
  pub are_items : AreItems world looks makefiles (first_defined profile definitions environment) items
  pub made : MakesItems profile definitions environment targets all goes_on before looks items (keeps environment items) (keeps environment items)
      disk_honest seen status sides tried
