use Rattle.bd_steps.proofs.RunLemmas.{flushes_are_runs, tidyings_are_runs, looks_are_steps, takes_are_steps, new_is_opened}
use Rattle.bd_steps.proofs.laws.flushes_are_runs_in.Goals as goal

pub returns : goal.returns
returns g c = record {
  new = new_is_opened (Unit {0}) g.D.Disk.honest g.D.Disk.moments g.D.Disk.seen g.D.Disk.faults;
  looks = looks_are_steps (Unit {0}) g.D.Disk.honest g.D.Disk.moments g.D.Disk.seen g.D.Disk.faults;
  takes = takes_are_steps (Unit {0}) g.D.Disk.honest g.D.Disk.moments g.D.Disk.seen g.D.Disk.faults;
  flushes = flushes_are_runs (Unit {0}) g.D.Disk.honest g.D.Disk.moments g.D.Disk.seen g.D.Disk.faults;
  tidyings = tidyings_are_runs (Unit {0}) g.D.Disk.honest g.D.Disk.moments g.D.Disk.seen g.D.Disk.faults;
}
