use Rattle.std.proofs.Common.{take}
use Rattle.jb_closing.specs.Last.{ArePlaces}
use Rattle.jb_closing.proofs.last.last_places.Given as goal

-- the last places among the records so far
abbrev pub invariant-loop-place : goal.invariant-loop-place
invariant-loop-place l = ArePlaces (take l.place l.told) l.names l.places.items
