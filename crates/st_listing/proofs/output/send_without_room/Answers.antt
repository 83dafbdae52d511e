use Rattle.std.proofs.Common.{[]}
use Rattle.st_listing.proofs.SendingLemmas.{sends_out_behind, part_of_more, at_error}
use Rattle.st_listing.proofs.output.send_without_room.Goals as goal

pub returns-in_err-write_waiting : goal.returns-in_err-write_waiting
returns-in_err-write_waiting g c =
    at_error _ c.from_residual.result _ _ _ _ _ c.from_residual.ensures.1 (part_of_more _ _ _ [] _ c.in_err-write_waiting.ensures.sent)

pub returns-then-bytes-capacity : goal.returns-then-bytes-capacity
returns-then-bytes-capacity g c =
    sends_out_behind c.write_text.result _ _ _ _ _ _ c.in_ok-write_waiting.ensures.sent c.in_ok-write_waiting.ensures.all c.write_text.ensures.whole c.write_text.ensures.part
