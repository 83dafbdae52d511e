use Rattle.std.proofs.Common.{◌≡◌, ℕ, List, ◌++◌}
use Rattle.std.specs.List.{flat_map}
use Rattle.st_listing.specs.Listing.{file_line}
use Rattle.st_listing.specs.Writing.{Sends}
use Rattle.st_listing.proofs.marked.send_files.Given as goal

abbrev pub invariant-loop-mark : goal.invariant-loop-mark
invariant-loop-mark g l =
    (sent : List ℕ)
    × (flat_map file_line l.fn.marks ≡ sent ++ flat_map file_line l.mark-iterator)
    × Sends (g.W.Write.contents l.fn.writer) (g.W.Write.contents l.writer) l.fn.buffer.items l.buffer.items sent
