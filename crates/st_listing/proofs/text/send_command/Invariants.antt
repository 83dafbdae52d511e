use Rattle.std.proofs.Common.{◌≡◌, ℕ, List, ◌++◌, length}
use Rattle.std.specs.List.{flat_map}
use Rattle.st_listing.specs.Listing.{command_text, continued, line}
use Rattle.st_listing.specs.Writing.{Sends}
use Rattle.st_listing.proofs.text.send_command.Given as goal

abbrev pub invariant-loop-end : goal.invariant-loop-end
invariant-loop-end g l =
    (sent : List ℕ)
    × (line (command_text l.command) ≡ sent ++ line (l.mark ++ flat_map continued l.rest))
    × Sends (g.W.Write.contents l.fn.writer) (g.W.Write.contents l.writer) l.fn.buffer.items l.buffer.items sent

abbrev pub decreases-loop-end : goal.decreases-loop-end
decreases-loop-end g l = length l.rest
