use Rattle.std.proofs.Common.{◌++◌}
use Rattle.st_listing.specs.Listing.{line, mark_below}
use Rattle.st_listing.proofs.SendingLemmas.{at_error, part_of_more, sends_behind}
use Rattle.st_listing.proofs.marked.send_name.Goals as goal

pub returns-in_err-send_line : goal.returns-in_err-send_line
returns-in_err-send_line g c =
    at_error _ c.from_residual.result _ _ _ _ _ c.from_residual.ensures.1
    (part_of_more _ _ c.args.buffer.now.items (line (c.args.front.now ++ c.args.name.now)) (mark_below c.args.mark) c.in_err-send_line.ensures)

pub returns : goal.returns
returns g c = sends_behind c.send_mark_below.result _ _ _ _ _ _ _ _ c.in_ok-send_line.ensures c.send_mark_below.ensures
