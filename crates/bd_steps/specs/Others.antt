-- Steps of other workers between those of a flush. Own.
use Rattle.std.specs.Prelude.{◌≡◌, ◌↔◌, ℕ, ◌≤◌, List, [], ◌∷◌, length, Result}
use Rattle.std.specs.List.{AllByRecursion}
use Rattle.st_disk.specs.declared.which.Which.{Which}
use Rattle.st_disk.specs.Moments.{Moments}
use Rattle.bd_flusher.specs.declared.fault.FlushFault.{FlushFault}
use Rattle.bd_flusher.specs.Site.{FactsIn, Facts, in_form}
use Rattle.bd_steps.specs.World.{World}
use Rattle.bd_steps.specs.Event.{Event, submit, advance, start, finish, something_else, MayHappen, after}
use Rattle.bd_flusher.specs.Flushing.{FlushAnswerIn, FlushAnswer}
use Rattle.bd_steps.specs.Steps.{IsLeftBy, IsOfFlush, ComesBy, AreStepsOf}
use Rattle.bd_steps.specs.Run.{IsRun, after_all}

-- a step that needs no lock of the site, so that a worker may make it while another one flushes
abbrev pub IsOfOthers : Event → Type 0
IsOfOthers (submit note) = Unit {0}
IsOfOthers (advance receipt) = Unit {0}
IsOfOthers (start ticket) = Unit {0}
IsOfOthers (finish ticket) = Unit {0}
IsOfOthers something_else = Unit {0}
IsOfOthers _ = ⊥

-- no more are told than were taken, and no more were taken than were submitted
pub record IsInOrder (w : World) : Type 0 where
  pub told : w.told ≤ w.taken
  pub taken : w.taken ≤ length w.submitted

-- each of two steps may be made behind the other just where it may be made before it, and in either order the same comes of both
pub record DontHinder (w : World) (mine other : Event) : Type 0 where
  pub first : MayHappen w mine ↔ MayHappen (after w other) mine
  pub second : MayHappen w other ↔ MayHappen (after w mine) other
  pub same : after (after w other) mine ≡ after (after w mine) other

-- so it is of a step of a flush and one that another worker makes meanwhile
abbrev pub OthersDontHinder : Type 0
OthersDontHinder =
    (w : World) (mine other : Event) → IsInOrder w → IsOfFlush mine → IsOfOthers other → DontHinder w mine other

-- the steps of the third list are those of the first and of the second, each list's in their order
pub data Interleaves : (mine others all : List Event) → Type 0 where
  nothing : Interleaves [] [] []
  own : {mine others all : List Event} (event : Event) →
      Interleaves mine others all → Interleaves (event ∷ mine) others (event ∷ all)
  another : {mine others all : List Event} (event : Event) →
      Interleaves mine others all → Interleaves mine (event ∷ others) (event ∷ all)

-- so the steps of a flush and those of others, where each may be made without the others, may be made in any such order, and
-- the same comes of them as if the others' had followed the flush's
abbrev pub InterleavedIsRun : Type 0
InterleavedIsRun =
    (w : World) (mine others all : List Event) → IsInOrder w → AllByRecursion IsOfFlush mine → AllByRecursion IsOfOthers others
    → IsRun w mine → IsRun w others → Interleaves mine others all
    → IsRun w all × (after_all w all ≡ after_all (after_all w mine) others)

-- the steps may be made in their turn, they leave the site so, and what a power cut may leave at any moment of its flush, it may
-- leave after some of them
pub record AreAmong {D : Type 0} (moments : D → Moments) (old new : FactsIn D) (w : World) (all : List Event) : Type 0 where
  pub run : IsRun w all
  pub left : IsLeftBy moments new (after_all w all)
  pub each_moment : (k : ℕ) → (moments old.disk).newest ≤ k → k ≤ (moments new.disk).newest → ComesBy w all ((moments new.disk).at k)

-- so whatever steps have left a site so, and whatever others do while it is flushed: what the flush does is some steps more, and
-- they stay so among the others'
abbrev pub FlushesAmongOthersIn : {D : Type 0} → (T : Type 0) → (honest : Type 0) → (D → Moments) → (D → Which → List ℕ) → (D → ℕ) → Type 0
FlushesAmongOthersIn {D} T honest moments seen count =
    (old new : FactsIn D) (result : Result T FlushFault) (w : World) → honest → FlushAnswerIn honest moments seen count old new result
    → IsLeftBy moments old w → (mine : List Event) × (AreStepsOf moments old new result w mine
    × ((others all : List Event) → AllByRecursion IsOfOthers others → IsRun w others → Interleaves mine others all
    → AreAmong moments old new w all))

-- ---- where version 2 is written

abbrev pub FlushesAmongOthers : {D : Type 0} → (T : Type 0) → (honest : Type 0) → (D → Moments) → (D → Which → List ℕ) → (D → ℕ) → Type 0
FlushesAmongOthers {D} T honest moments seen count =
    (old new : Facts D) (result : Result T FlushFault) (w : World) → honest → FlushAnswer honest moments seen count old new result
    → IsLeftBy moments (in_form old) w → (mine : List Event) × (AreStepsOf moments (in_form old) (in_form new) result w mine
    × ((others all : List Event) → AllByRecursion IsOfOthers others → IsRun w others → Interleaves mine others all
    → AreAmong moments (in_form old) (in_form new) w all))
