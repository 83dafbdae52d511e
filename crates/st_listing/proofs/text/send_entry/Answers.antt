use Rattle.st_listing.specs.Listing.{line, lines_below, phase_text}
use Rattle.st_listing.proofs.SendingLemmas.{at_error, part_of_more, sends_behind}
use Rattle.st_listing.proofs.text.send_entry.Goals as goal

pub returns-in_err-send_phase : goal.returns-in_err-send_phase
returns-in_err-send_phase g c =
    let phase = line (phase_text c.args.name.now c.args.entry.now.phase) in
    let below = lines_below c.args.entry.now.commands c.args.entry.now.hidden c.args.entry.now.explicit in
    at_error _ c.from_residual.result _ _ _ _ _ c.from_residual.ensures.1
    (part_of_more _ _ c.args.buffer.now.items phase below (rw c.phase.ensures at c.in_err-send_phase.ensures))

pub returns : goal.returns
returns g c =
    sends_behind c.send_below.result _ _ _ _ _ _ _ _ (rw c.phase.ensures at c.in_ok-send_phase.ensures)
    (rw (c.commands.ensures, c.hidden.ensures, c.lend.ensures) at c.send_below.ensures)
