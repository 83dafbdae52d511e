use Rattle.std.proofs.Common.{[], ◌∷◌, ◌++◌}
use Rattle.st_listing.specs.Listing.{newline}
use Rattle.st_listing.proofs.SendingLemmas.{sends_behind, part_of_more, at_error}
use Rattle.st_listing.proofs.output.send_line.Goals as goal

pub returns-in_err-send_both : goal.returns-in_err-send_both
returns-in_err-send_both g c =
    at_error _ c.from_residual.result _ _ _ _ _ c.from_residual.ensures.1
    (part_of_more _ _ c.args.buffer.now.items (c.args.mark.now ++ c.args.text.now) (newline ∷ []) c.in_err-send_both.ensures)

pub returns : goal.returns
returns g c = sends_behind c.send.result _ _ _ _ _ _ _ _ c.in_ok-send_both.ensures c.send.ensures
