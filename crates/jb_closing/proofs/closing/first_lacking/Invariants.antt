use Rattle.std.proofs.Common.{ℕ, List}
use Rattle.jb_closing.specs.Last.{ArePlaces}
use Rattle.jb_closing.proofs.ClosingLemmas.{AllDoneBefore}
use Rattle.jb_closing.proofs.closing.first_lacking.Given as goal

-- the built nodes so far end with a 'done'
abbrev pub invariant-loop-node : goal.invariant-loop-node
invariant-loop-node l = (names : List (List ℕ)) → ArePlaces l.told names l.places → AllDoneBefore l.told names l.ends l.node
