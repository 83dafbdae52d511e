-- What each fault of a dry run says. Of a fault that comes later all stages before it are told, so that the order of the faults is
-- that of the cases here.
use Rattle.std.specs.Prelude.{◌≡◌, ◌||◌, ℕ, Bool, true, List, Option}
use Rattle.std.specs.FinMap as map
use Rattle.mk_eval.specs.Output.{World}
use Rattle.mk_reader.specs.declared.item.Item.{Item}
use Rattle.mk_rules.specs.Faults.{IsRuleFault}
use Rattle.mk_profile.specs.declared.profile.Profile.{Profile}
use Rattle.mk_rules.specs.Limit.{node_limit}
use Rattle.mk_nodes.specs.declared.graph.Graph.{Graph}
use Rattle.st_disk.specs.declared.which.Which.{Which}
use Rattle.st_disk.specs.declared.which.Which.TheVariants as sides
use Rattle.st_file.specs.declared.fault.OpenFault.{OpenFault}
use Rattle.st_file.specs.declared.fault.OpenFault.TheVariants as open_fault
use Rattle.st_state.specs.State.{StateMap}
use Rattle.st_records.specs.declared.version.Form.{Form}
use Rattle.st_recovery.specs.Recovers.{RefusesWithIn}
use Rattle.dmk_reading.specs.Definitions.{first_defined}
use Rattle.dmk_reading.specs.Keeping.{keeps, kept_form}
use Rattle.dmk_dry.specs.Listing.{IsListingFault}
use Rattle.dmk_reading.specs.Planned.{AreItems, IsStateOn, judged_graph}
use Rattle.dmk_dry.specs.Planned.{IsListedGraphOf}
use Rattle.dmk_messages.specs.declared.fault.Fault.{Fault}
use Rattle.dmk_messages.specs.declared.fault.Fault.TheVariants as fault
use Rattle.dmk_reading.specs.declared.makefiles.Makefiles.{Makefiles}
use Rattle.bd_lists.specs.declared.recipe.Variable.{Variable}
use Rattle.dmk_reading.specs.Faults.{IsTextFault}
use Rattle.mk_nodes.specs.declared.file_look.FileLook.{FileLook}

-- the fault of the two sides; a device and want of memory say nothing of their bytes
abbrev pub IsOpenFault : (newest : Form) → (seen : Which → List ℕ) → OpenFault → Type 0
IsOpenFault newest seen open_fault.Device = Unit {0}
IsOpenFault newest seen open_fault.OutOfMemory = Unit {0}
IsOpenFault newest seen f = RefusesWithIn newest (seen sides.A) (seen sides.B) f

-- the fault of a plan for items that were read
abbrev pub IsPlanFault : (profile : Profile) (definitions environment : List Variable) (targets : List (List ℕ)) (all goes_on : Bool) (looks : List ℕ → Option FileLook)
    (refuses : List ℕ → Type 0) (disk_honest : Type 0) (seen : Which → List ℕ) (items : List Item) →
    Fault → Type 0
IsPlanFault profile definitions environment targets all goes_on looks refuses disk_honest seen items fault.OutOfMemory = Unit {0}
IsPlanFault profile definitions environment targets all goes_on looks refuses disk_honest seen items (fault.State f) =
    (keeps environment items ≡ true) × (disk_honest → IsOpenFault (kept_form profile) seen f)
IsPlanFault profile definitions environment targets all goes_on looks refuses disk_honest seen items (fault.Rules f) =
    (state : StateMap) × IsStateOn (kept_form profile) (keeps environment items) disk_honest seen state
    × IsRuleFault (first_defined profile definitions environment) items looks (map.get state) refuses targets (node_limit profile) f
IsPlanFault profile definitions environment targets all goes_on looks refuses disk_honest seen items (fault.Recipe f) =
    (state : StateMap) × IsStateOn (kept_form profile) (keeps environment items) disk_honest seen state
    × ((graph : Graph) × IsListedGraphOf profile definitions environment targets goes_on looks items state graph × IsListingFault (all || keeps environment items) (judged_graph all graph) f)
IsPlanFault profile definitions environment targets all goes_on looks refuses disk_honest seen items _ = ⊥

-- a fault of the makefile comes before all else; the others are those of a plan for its items
abbrev pub IsRunFault : (Text : Fault → Type 0) (Items : List Item → Type 0) (Plan : List Item → Fault → Type 0) → Fault → Type 0
IsRunFault Text Items Plan fault.OutOfMemory = Unit {0}
IsRunFault Text Items Plan fault.NoMakefile = Text fault.NoMakefile
IsRunFault Text Items Plan (fault.Read f) = Text (fault.Read f)
IsRunFault Text Items Plan (fault.State f) = (items : List Item) × Items items × Plan items (fault.State f)
IsRunFault Text Items Plan (fault.Rules f) = (items : List Item) × Items items × Plan items (fault.Rules f)
IsRunFault Text Items Plan (fault.Recipe f) = (items : List Item) × Items items × Plan items (fault.Recipe f)
IsRunFault Text Items Plan fault.Write = ⊥

-- so it is of the makefile that is named, or the usual one, for these targets
abbrev pub IsFaultOf : (world : World) (looks : List ℕ → Option FileLook) (makefiles : Makefiles)
    (profile : Profile) (definitions environment : List Variable) (targets : List (List ℕ)) (all goes_on : Bool) (refuses : List ℕ → Type 0) (disk_honest : Type 0)
    (seen : Which → List ℕ) → Fault → Type 0
IsFaultOf world looks makefiles profile definitions environment targets all goes_on refuses disk_honest seen =
    IsRunFault (IsTextFault world looks refuses makefiles (first_defined profile definitions environment))
    (AreItems world looks makefiles (first_defined profile definitions environment))
    (IsPlanFault profile definitions environment targets all goes_on looks refuses disk_honest seen)
