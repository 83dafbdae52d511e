-- Any steps of any number of workers, one after another.
use Rattle.std.specs.Prelude.{◌≡◌, List, [], ◌∷◌, None}
use Rattle.bd_steps.specs.World.{World}
use Rattle.bd_steps.specs.Event.{Event, MayHappen, after}

-- each step may be made in its turn, and none follows a power cut
abbrev pub IsRun : World → List Event → Type 0
IsRun w [] = Unit {0}
IsRun w (event ∷ events) = (w.left ≡ None) × MayHappen w event × IsRun (after w event) events

-- what comes of all of them
abbrev pub after_all : World → List Event → World
after_all w [] = w
after_all w (event ∷ events) = after_all (after w event) events
