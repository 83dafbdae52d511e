use Rattle.std.proofs.Common.{◌≡◌, ℕ, List, ◌++◌}
use Rattle.st_listing.specs.Listing.{marked_lines}
use Rattle.st_listing.specs.Writing.{Sends}
use Rattle.st_listing.proofs.marked.send_marked.Given as goal

abbrev pub invariant-loop-name : goal.invariant-loop-name
invariant-loop-name g l =
    (sent : List ℕ)
    × (marked_lines l.fn.front l.fn.names l.fn.marks ≡ sent ++ marked_lines l.fn.front l.name-iterator l.left)
    × Sends (g.W.Write.contents l.fn.writer) (g.W.Write.contents l.writer) l.fn.buffer.items l.buffer.items sent
