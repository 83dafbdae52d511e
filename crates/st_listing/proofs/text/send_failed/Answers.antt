use Rattle.std.proofs.Common.{◌++◌, [], codes, append_assoc}
use Rattle.std.specs.Fmt.{decimal}
use Rattle.st_listing.specs.Listing.{line}
use Rattle.st_listing.proofs.SendingLemmas.{at_error, part_within, sends_last, sends_nothing}
use Rattle.st_listing.proofs.text.send_failed.Goals as goal

pub returns-in_err-send_both : goal.returns-in_err-send_both
returns-in_err-send_both g c =
    let named = codes "failed " ++ c.args.name.now in
    let status = line (codes " " ++ decimal c.args.status) in
    at_error _ c.from_residual.result _ _ _ _ _ c.from_residual.ensures.1 (part_within _ _ _ _ _ [] named status _ (simp append_assoc) (sends_nothing _ _) c.in_err-send_both.ensures)

pub returns : goal.returns
returns g c =
    let named = codes "failed " ++ c.args.name.now in
    let status = line (codes " " ++ decimal c.args.status) in
    sends_last c.send_line.result _ _ _ _ _ _ named status _ (simp append_assoc) c.in_ok-send_both.ensures (rw (c.as_bytes.ensures.value, c.format.ensures.text) at c.send_line.ensures)
