-- Goals that are made in parts, one behind the other. That the targets of the command line are made in their order is what POSIX make
-- says of a run with one worker, and that a failure ends a run without -k (its "OPERANDS" and "OPTIONS"); where a part ends is own.
use Rattle.std.specs.Prelude.{◌≡◌, ◌≢◌, ◌⊎◌, ℕ, max, Bool, true, List, [], ◌∷◌, Option}
use Rattle.mk_eval.specs.Output.{World}
use Rattle.mk_reader.specs.declared.item.Item.{Item}
use Rattle.st_disk.specs.Crash.{Sides}
use Rattle.st_disk.specs.declared.which.Which.{Which}
use Rattle.bd_lists.specs.declared.recipe.Variable.{Variable}
use Rattle.dmk_reading.specs.Definitions.{first_defined}
use Rattle.dmk_reading.specs.Keeping.{keeps}
use Rattle.dmk_reading.specs.Planned.{AreItems}
use Rattle.dmk_reading.specs.declared.options.Options.{Options}
use Rattle.dmk_parts.specs.Behind.{both_tried}
use Rattle.dmk_parts.specs.Parts.{AreParts, GoesOn, EndsRun}
use Rattle.dmk_run.specs.Made.{Makes}
use Rattle.dmk_store.specs.declared.stop.Stop.{Stop}
use Rattle.dmk_store.specs.declared.stop.Stop.TheVariants as stops
use Rattle.dmk_parts.specs.declared.tried.Tried.{Tried}
use Rattle.mk_nodes.specs.declared.file_look.FileLook.{FileLook}

-- ---- One part

-- what stands between two parts: the disk, and the names that parts so far tried
abbrev pub Between : (Disk : Type 0) → Type 0
Between Disk = Disk × Tried

-- a part is made: these goals are, as the options say, over the disk that was found and behind what was tried before, by what makefiles were
-- read from and by looks at files of its own. It adds names that it built without a file, and all that failed in it
pub record MakesPart {Source Tree Disk : Type 0} (Reads : Source → World → Type 0) (Allows : Tree → (List ℕ → Option FileLook) → Type 0)
    (options : Options) (environment : List Variable) (disk_honest : Type 0) (seen : Disk → Which → List ℕ) (sides : Disk → Sides)
    (targets : List (List ℕ)) (found left : Between Disk) (status : ℕ) : Type 0 where
  pub source : Source
  pub tree : Tree
  pub tried : Tried
  pub adds : left.1 ≡ both_tried found.1 tried
  pub made : (world : World) (looks : List ℕ → Option FileLook) → Reads source world → Allows tree looks →
      Makes world looks options.makefiles options.profile options.definitions.items environment targets options.makes_all options.goes_on found.1 disk_honest
      (seen found.0) status (sides left.0) tried

-- the disk is left as it was found, or what makefiles were read from and looks at files say that a makefile keeps state
abbrev pub LeavesDisk : {Source Tree Disk : Type 0} (Reads : Source → World → Type 0) (Allows : Tree → (List ℕ → Option FileLook) → Type 0)
    (options : Options) (environment : List Variable) (found left : Disk) → Type 0
LeavesDisk {Source} {Tree} Reads Allows options environment found left =
    (left ≡ found) ⊎ ((source : Source) × (tree : Tree) × ((world : World) (looks : List ℕ → Option FileLook) → Reads source world → Allows tree looks →
    (items : List Item) × AreItems world looks options.makefiles (first_defined options.profile options.definitions.items environment) items
    × (keeps environment items ≡ true)))

-- ---- Which parts there are

-- the goals are to be made in parts, and nothing was begun
abbrev pub IsParted : Stop → Type 0
IsParted (stops.Parted _) = Unit {0}
IsParted _ = ⊥

-- ---- One behind the other

-- these parts are made in turn, the first from what was found and each other one from what the one before it left. The status is
-- the largest of theirs. One that ends the run is the last that is made
pub data MadeInTurn {State : Type 0} (MakesOne : (targets : List (List ℕ)) → (found left : State) → (status : ℕ) → Type 0) (goes_on : Bool) :
    (parts : List (List (List ℕ))) → (found left : State) → (status : ℕ) → Type 0 where
  none_left : (state : State) → MadeInTurn MakesOne goes_on [] state state 0
  first_made : {parts : List (List (List ℕ))} {between left : State} {status : ℕ} (targets : List (List ℕ)) (found : State) (own : ℕ) →
      MakesOne targets found between own → GoesOn goes_on own → MadeInTurn MakesOne goes_on parts between left status →
      MadeInTurn MakesOne goes_on (targets ∷ parts) found left (max own status)
  run_ended : (targets : List (List ℕ)) (parts : List (List (List ℕ))) (found left : State) (own : ℕ) →
      MakesOne targets found left own → EndsRun goes_on own → MadeInTurn MakesOne goes_on (targets ∷ parts) found left own

-- behind what has a status nothing more is made or, where the run goes on, some targets are. The status is the larger one
pub data MadeBehind {State : Type 0} (MakesOne : (targets : List (List ℕ)) → (found left : State) → (status : ℕ) → Type 0) (goes_on : Bool)
    (before : ℕ) (found left : State) (status : ℕ) : Type 0 where
  no_more : left ≡ found → status ≡ before → MadeBehind MakesOne goes_on before found left status
  once_more : (targets : List (List ℕ)) (own : ℕ) → targets ≢ [] → GoesOn goes_on before → MakesOne targets found left own →
      status ≡ max own before → MadeBehind MakesOne goes_on before found left status

-- a part is made, and behind it targets that are lost since they were judged up to date
pub record MakesWithLost {State : Type 0} (MakesOne : (targets : List (List ℕ)) → (found left : State) → (status : ℕ) → Type 0) (goes_on : Bool)
    (targets : List (List ℕ)) (found left : State) (status : ℕ) : Type 0 where
  pub between : State
  pub before : ℕ
  pub made : MakesOne targets found between before
  pub behind : MadeBehind MakesOne goes_on before between left status

-- the goals are made in parts, in turn, each with what is lost behind it
pub record IsMadeInTurn {State : Type 0} (MakesOne : (targets : List (List ℕ)) → (found left : State) → (status : ℕ) → Type 0) (goes_on : Bool)
    (goals : List (List ℕ)) (found left : State) (status : ℕ) : Type 0 where
  pub parts : List (List (List ℕ))
  pub are_parts : AreParts goals parts
  pub in_turn : MadeInTurn (MakesWithLost MakesOne goes_on) goes_on parts found left status
