use Rattle.st_listing.proofs.SendingLemmas.{sends_behind, part_of_more, at_error}
use Rattle.st_listing.proofs.output.send_both.Goals as goal

pub returns-in_err-send : goal.returns-in_err-send
returns-in_err-send g c =
    at_error _ c.from_residual.result _ _ _ _ _ c.from_residual.ensures.1 (part_of_more _ _ c.args.buffer.now.items c.args.first.now c.args.second.now c.in_err-send.ensures)

pub returns : goal.returns
returns g c = sends_behind c.send-2.result _ _ _ _ _ _ _ _ c.in_ok-send.ensures c.send-2.ensures
