use Rattle.std.proofs.Common.{◌≡◌, ℕ, List, ◌++◌}
use Rattle.std.specs.List.{flat_map}
use Rattle.st_listing.specs.Listing.{command_text, line}
use Rattle.st_listing.specs.Writing.{Sends}
use Rattle.st_listing.proofs.text.send_commands.Given as goal

abbrev pub invariant-loop-command : goal.invariant-loop-command
invariant-loop-command g l =
    (sent : List ℕ)
    × (flat_map (λ c. line (command_text c)) l.fn.commands ≡ sent ++ flat_map (λ c. line (command_text c)) l.command-iterator)
    × Sends (g.W.Write.contents l.fn.writer) (g.W.Write.contents l.writer) l.fn.buffer.items l.buffer.items sent
