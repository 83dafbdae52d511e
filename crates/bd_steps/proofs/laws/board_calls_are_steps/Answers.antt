use Rattle.st_records.specs.declared.version.Form.TheVariants.{Plain}
use Rattle.bd_flusher.specs.Site.{in_form}
use Rattle.bd_steps.proofs.BoardLemmas.{new_board_is_opened, submits_are_steps, drains_are_steps, advances_are_steps, claims_are_no_steps, settlings_are_no_steps, steps_keep_boards}
use Rattle.bd_steps.proofs.laws.board_calls_are_steps.Goals as goal

pub returns : goal.returns
returns g c = record {
  new = new_board_is_opened Plain;
  submits = submits_are_steps;
  drains = λ s. drains_are_steps (Unit {0}) g.D.Disk.honest g.D.Disk.moments g.D.Disk.seen g.D.Disk.faults (in_form s);
  advances = advances_are_steps;
  claims = claims_are_no_steps;
  settlings = settlings_are_no_steps;
  others = steps_keep_boards;
}
