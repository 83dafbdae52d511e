use Rattle.bd_steps.proofs.BoardLemmas.{new_board_is_opened, drains_are_steps}
use Rattle.bd_steps.proofs.laws.board_calls_are_steps_in.Goals as goal

pub returns : goal.returns
returns g c = record {
  new = new_board_is_opened;
  drains = drains_are_steps (Unit {0}) g.D.Disk.honest g.D.Disk.moments g.D.Disk.seen g.D.Disk.faults;
}
