use Rattle.std.proofs.Common.{take}
use Rattle.std.specs.List.{flat_map}
use Rattle.st_listing.specs.Listing.{entry_lines}
use Rattle.st_listing.specs.Writing.{Sends}
use Rattle.st_listing.proofs.text.send_entries.Given as goal

abbrev pub invariant-loop-place : goal.invariant-loop-place
invariant-loop-place g l =
    Sends (g.W.Write.contents l.fn.writer) (g.W.Write.contents l.writer) l.fn.buffer.items l.buffer.items (flat_map entry_lines (take l.place l.named))
