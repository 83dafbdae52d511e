-- What a site's methods do is a list of steps. Own.
use Rattle.std.specs.Prelude.{◌≡◌, ◌≢◌, ◌⊎◌, ℕ, ◌+◌, ◌<◌, ◌≤◌, Bool, true, false, List, [], ◌∷◌, ◌++◌, length, take, drop, map as list_map, Some, None, slice_get, Result, Ok, Err}
use Rattle.std.specs.List.{AllByRecursion}
use Rattle.st_disk.specs.declared.which.Which.{Which}
use Rattle.st_disk.specs.Crash.{Sides}
use Rattle.st_disk.specs.Moments.{Moments, now}
use Rattle.st_records.specs.declared.version.Version.{Version}
use Rattle.st_records.specs.declared.version.Form.{Form}
use Rattle.st_records.specs.declared.record.Record.{Record}
use Rattle.st_state.specs.State.{StateMap}
use Rattle.bd_flusher.specs.declared.fault.FlushFault.{FlushFault}
use Rattle.bd_flusher.specs.declared.fault.FlushFault.TheVariants as faults
use Rattle.bd_flusher.specs.declared.site.receipt.Receipt.{Receipt}
use Rattle.bd_flusher.specs.Batches.{StandsAt, IsInBatch}
use Rattle.bd_flusher.specs.Site.{FactsIn, first_facts_in, holding_in, Facts, first_facts, in_form, holding}
use Rattle.bd_flusher.specs.Tidying.{TidyAnswerIn, TidyAnswer}
use Rattle.bd_flusher.specs.Flushing.{FlushAnswerIn, FlushAnswer}
use Rattle.bd_steps.specs.World.{World, opened_in, opened}
use Rattle.bd_steps.specs.Event.{Event, drain, compaction_call, commit_call, commit_end, look, MayHappen, after}
use Rattle.bd_steps.specs.Run.{IsRun, after_all}

-- the site is as the steps so far have left it: it writes their form, what it has told and what it holds are the submitted
-- records that are told and taken, and a power cut may leave of its disk what it may leave of both sides
pub record IsLeftBy {D : Type 0} (moments : D → Moments) (s : FactsIn D) (w : World) : Type 0 where
  pub form : s.newest ≡ w.form
  pub opening : s.opening ≡ w.opening
  pub told : s.told ≡ take w.told w.submitted
  pub count : length s.told ≡ w.told
  pub taken : s.told ++ s.held ≡ take w.taken w.submitted
  pub both : length s.told + length s.held ≡ w.taken
  pub ends : s.ends ≡ w.ends
  pub dead : s.dead ≡ w.dead
  pub sides : now (moments s.disk) ≡ w.sides
  pub running : w.left ≡ None

-- a call of the device, or the end of a commit
abbrev pub IsOfFlush : Event → Type 0
IsOfFlush (compaction_call sides failed) = Unit {0}
IsOfFlush (commit_call sides failed) = Unit {0}
IsOfFlush commit_end = Unit {0}
IsOfFlush _ = ⊥

-- the calls are those between these moments: one for each moment behind the old ones, in order, after which a power cut may leave
-- what it may leave at that moment
pub record AreCalls (call : Sides → Bool → Event) (old new : Moments) (calls : List Event) : Type 0 where
  pub each_one : old.newest + length calls ≡ new.newest
  pub in_order : (place : ℕ) → place < length calls → slice_get calls place ≡ Some (call (new.at (old.newest + 1 + place)) false)

-- what follows the calls that weren't refused: the one that was, which has changed no more; or the end of the commit, where
-- something was held; or nothing
pub data Closes {D T : Type 0} (moments : D → Moments) (old new : FactsIn D) : Result T FlushFault → List Event → Type 0 where
  is_told : {x : T} → 0 < length old.held → Closes moments old new (Ok x) (commit_end ∷ [])
  nothing_done : {result : Result T FlushFault} → new ≡ old → Closes moments old new result []
  compaction_refused : Closes moments old new (Err faults.Device) (compaction_call (now (moments new.disk)) true ∷ [])
  commit_refused : Closes moments old new (Err faults.Device) (commit_call (now (moments new.disk)) true ∷ [])
  else_refused : {fault : FlushFault} → fault ≢ faults.Device → Closes moments old new (Err fault) []

-- the steps are the calls of a compaction, then those of a commit, and then what closes these
pub record AreInOrder {D T : Type 0} (moments : D → Moments) (old new : FactsIn D) (result : Result T FlushFault) (events : List Event) : Type 0 where
  pub between : Moments
  pub compaction : List Event
  pub commit : List Event
  pub closing : List Event
  pub all : events ≡ compaction ++ (commit ++ closing)
  pub compacts : AreCalls compaction_call (moments old.disk) between compaction
  pub commits : AreCalls commit_call between (moments new.disk) commit
  pub closes : Closes moments old new result closing

-- after so many of these steps, from the first on, a power cut may leave just this
abbrev pub ComesBy : World → List Event → Sides → Type 0
ComesBy w events sides = (n : ℕ) × ((after_all w (take n events)).sides ≡ sides)

-- the steps are those of a flush, in order and no others; each may be made in its turn, and they leave the site so; what a power
-- cut may leave at any moment of the flush, it may leave after some of them
pub record AreStepsOf {D T : Type 0} (moments : D → Moments) (old new : FactsIn D) (result : Result T FlushFault) (w : World) (events : List Event) : Type 0 where
  pub own : AllByRecursion IsOfFlush events
  pub in_order : AreInOrder moments old new result events
  pub run : IsRun w events
  pub left : IsLeftBy moments new (after_all w events)
  pub each_moment : (k : ℕ) → (moments old.disk).newest ≤ k → k ≤ (moments new.disk).newest → ComesBy w events ((moments new.disk).at k)

-- whatever steps have left a site so, what a flush of it does is some steps more
abbrev pub FlushesAreRunsIn : {D : Type 0} → (T : Type 0) → (honest : Type 0) → (D → Moments) → (D → Which → List ℕ) → (D → ℕ) → Type 0
FlushesAreRunsIn {D} T honest moments seen count =
    (old new : FactsIn D) (result : Result T FlushFault) (w : World) → honest → FlushAnswerIn honest moments seen count old new result
    → IsLeftBy moments old w → (events : List Event) × AreStepsOf moments old new result w events

-- so is what a call of `tidy` does: calls of a compaction, and the one that was refused
pub record AreStepsOfTidying {D : Type 0} (moments : D → Moments) (old new : FactsIn D) (w : World) (events : List Event) : Type 0 where
  pub calls : List Event
  pub refused : List Event
  pub all : events ≡ calls ++ refused
  pub compacts : AreCalls compaction_call (moments old.disk) (moments new.disk) calls
  pub at_most_one : (refused ≡ []) ⊎ (refused ≡ compaction_call (now (moments new.disk)) true ∷ [])
  pub run : IsRun w events
  pub left : IsLeftBy moments new (after_all w events)

abbrev pub TidyingsAreRunsIn : {D : Type 0} → (T : Type 0) → (honest : Type 0) → (D → Moments) → (D → Which → List ℕ) → (D → ℕ) → Type 0
TidyingsAreRunsIn {D} T honest moments seen count =
    (old new : FactsIn D) (result : Result T FlushFault) (w : World) → honest → TidyAnswerIn honest moments seen count old new result
    → IsLeftBy moments old w → (events : List Event) × AreStepsOfTidying moments old new w events

-- where nothing is held, and what waits on the board are the submitted records behind those that are told, to take it in is a
-- step, and leaves the site so
abbrev pub TakesAreStepsIn : {D : Type 0} → (D → Moments) → Type 0
TakesAreStepsIn {D} moments =
    (s : FactsIn D) (w : World) (notes : List (ℕ × Record)) → IsLeftBy moments s w → s.held ≡ []
    → list_map (λ n. n.1) notes ≡ drop w.told w.submitted → MayHappen w drain × IsLeftBy moments (holding_in notes s) (after w drain)

-- a receipt that a site's look gives may be given by a step
abbrev pub LooksAreStepsIn : {D : Type 0} → (D → Moments) → Type 0
LooksAreStepsIn {D} moments =
    (s : FactsIn D) (w : World) (receipt : Receipt) → IsLeftBy moments s w → StandsAt s.told receipt.ticket receipt.noted
    → IsInBatch 0 s.ends receipt.ticket receipt.batch → MayHappen w (look receipt)

-- a site that was just made is as an opened world before any step
abbrev pub NewIsOpenedIn : {D : Type 0} → (D → Moments) → Type 0
NewIsOpenedIn {D} moments =
    (disk : D) (side : Which) (form newest : Form) (generation end : ℕ) (state : StateMap)
    → IsLeftBy moments (first_facts_in disk side form newest generation end state) (opened_in newest state (now (moments disk)))

-- ---- where version 2 is written

abbrev pub FlushesAreRuns : {D : Type 0} → (T : Type 0) → (honest : Type 0) → (D → Moments) → (D → Which → List ℕ) → (D → ℕ) → Type 0
FlushesAreRuns {D} T honest moments seen count =
    (old new : Facts D) (result : Result T FlushFault) (w : World) → honest → FlushAnswer honest moments seen count old new result
    → IsLeftBy moments (in_form old) w → (events : List Event) × AreStepsOf moments (in_form old) (in_form new) result w events

abbrev pub TidyingsAreRuns : {D : Type 0} → (T : Type 0) → (honest : Type 0) → (D → Moments) → (D → Which → List ℕ) → (D → ℕ) → Type 0
TidyingsAreRuns {D} T honest moments seen count =
    (old new : Facts D) (result : Result T FlushFault) (w : World) → honest → TidyAnswer honest moments seen count old new result
    → IsLeftBy moments (in_form old) w → (events : List Event) × AreStepsOfTidying moments (in_form old) (in_form new) w events

abbrev pub TakesAreSteps : {D : Type 0} → (D → Moments) → Type 0
TakesAreSteps {D} moments =
    (s : Facts D) (w : World) (notes : List (ℕ × Record)) → IsLeftBy moments (in_form s) w → s.held ≡ []
    → list_map (λ n. n.1) notes ≡ drop w.told w.submitted → MayHappen w drain × IsLeftBy moments (in_form (holding notes s)) (after w drain)

abbrev pub LooksAreSteps : {D : Type 0} → (D → Moments) → Type 0
LooksAreSteps {D} moments =
    (s : Facts D) (w : World) (receipt : Receipt) → IsLeftBy moments (in_form s) w → StandsAt s.told receipt.ticket receipt.noted
    → IsInBatch 0 s.ends receipt.ticket receipt.batch → MayHappen w (look receipt)

abbrev pub NewIsOpened : {D : Type 0} → (D → Moments) → Type 0
NewIsOpened {D} moments =
    (disk : D) (side : Which) (version : Version) (generation end : ℕ) (state : StateMap)
    → IsLeftBy moments (in_form (first_facts disk side version generation end state)) (opened state (now (moments disk)))
