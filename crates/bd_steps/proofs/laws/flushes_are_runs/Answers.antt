use Rattle.st_records.specs.declared.version.Form.TheVariants.{Plain}
use Rattle.st_records.specs.Forms.{form_of}
use Rattle.bd_flusher.specs.Site.{in_form}
use Rattle.bd_steps.proofs.RunLemmas.{flushes_are_runs, tidyings_are_runs, looks_are_steps, takes_are_steps, new_is_opened}
use Rattle.bd_steps.proofs.laws.flushes_are_runs.Goals as goal

pub returns : goal.returns
returns g c = record {
  new = λ disk side version generation end state.
      new_is_opened (Unit {0}) g.D.Disk.honest g.D.Disk.moments g.D.Disk.seen g.D.Disk.faults disk side (form_of version) Plain generation end state;
  looks = λ s. looks_are_steps (Unit {0}) g.D.Disk.honest g.D.Disk.moments g.D.Disk.seen g.D.Disk.faults (in_form s);
  takes = λ s. takes_are_steps (Unit {0}) g.D.Disk.honest g.D.Disk.moments g.D.Disk.seen g.D.Disk.faults (in_form s);
  flushes = λ old new. flushes_are_runs (Unit {0}) g.D.Disk.honest g.D.Disk.moments g.D.Disk.seen g.D.Disk.faults (in_form old) (in_form new);
  tidyings = λ old new. tidyings_are_runs (Unit {0}) g.D.Disk.honest g.D.Disk.moments g.D.Disk.seen g.D.Disk.faults (in_form old) (in_form new);
}
