-- Which targets are taken over before a run as other levels know them. Own.
use Rattle.std.specs.Prelude.{◌≡◌, ℕ, true, false, List, [], ◌∷◌, Option}
use Rattle.std.specs.FinMap as map
use Rattle.mk_eval.specs.Output.{World}
use Rattle.mk_nodes.specs.declared.graph.Graph.{Graph}
use Rattle.mk_nodes.specs.declared.file_look.FileLook.{FileLook}
use Rattle.mk_reader.specs.declared.item.Item.{Item}
use Rattle.bd_lists.specs.declared.recipe.Variable.{Variable}
use Rattle.st_records.specs.declared.record.Record.{Record}
use Rattle.st_state.specs.State.{StateMap, replay}
use Rattle.dmk_reading.specs.Definitions.{first_defined}
use Rattle.dmk_reading.specs.Planned.{AreItems, IsGraphOf}
use Rattle.dmk_reading.specs.declared.options.Options.{Options}
use Rattle.mk_levels.specs.declared.level.Level.{Level}
use Rattle.mk_levels.specs.Picked.{ArePicked}

-- the items are those of the makefiles, by what the files hold
abbrev pub AreRead : (world : World) (looks : List ℕ → Option FileLook) → Options → (environment : List Variable) → (items : List Item) → Type 0
AreRead world looks options environment items =
    AreItems world looks options.makefiles (first_defined options.profile options.definitions.items environment) items

-- the graph of what the options ask for, by this state
abbrev pub IsAsked : (world : World) (looks : List ℕ → Option FileLook) → Options → (environment : List Variable) → (m : StateMap) → Graph → Type 0
IsAsked world looks options environment m graph =
    (items : List Item) × AreRead world looks options environment items
    × IsGraphOf options.profile options.definitions.items environment options.targets looks items m graph

-- the records with which targets are taken over into their own state: other levels offer them of targets whose recipes are to be run by
-- it, and by its records with all that is offered they are up to date
pub data AreKnown (IsWanted : StateMap → Graph → Type 0) (levels : List Level) (own : StateMap) : List Record → Type 0 where
  -- nothing is offered of what is to be made
  nothing_offered : (graph : Graph) → IsWanted own graph → ArePicked own levels true graph [] → AreKnown IsWanted levels own []
  -- by these offers
  up_to_date : (graph judged : Graph) (offers known : List Record) (offered : Level) → IsWanted own graph → ArePicked own levels true graph offers →
      IsWanted (replay own offers) judged → offered.state ≡ replay map.empty offers →
      ArePicked map.empty (offered ∷ []) false judged known → AreKnown IsWanted levels own known
