use Rattle.bd_flusher.specs.Site.{in_form}
use Rattle.bd_steps.proofs.OtherLemmas.{others_dont_hinder, interleaved_is_run, flushes_among_others}
use Rattle.bd_steps.proofs.laws.others_dont_hinder.Goals as goal

pub returns : goal.returns
returns g c = record {
  steps = others_dont_hinder;
  lists = interleaved_is_run;
  flushes = λ old new. flushes_among_others (Unit {0}) g.D.Disk.honest g.D.Disk.moments g.D.Disk.seen g.D.Disk.faults (in_form old) (in_form new);
}
