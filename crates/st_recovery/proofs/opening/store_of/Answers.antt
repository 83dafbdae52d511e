use Rattle.st_disk.specs.Moments.{now}
use Rattle.st_recovery.proofs.StoredLemmas.{ready_of, stored_of}
use Rattle.st_recovery.proofs.opening.store_of.Goals as goal

pub invariant_of-log : goal.invariant_of-log
invariant_of-log g c = record {
  ready = λ honest alive.
      ready_of c.args.newest (g.D.Disk.seen c.args.disk) c.args.chosen.side _ _ _ _ (now (g.D.Disk.moments c.args.disk)) (c.requires.chosen honest) (c.requires.on_a honest) (c.requires.on_b honest);
}

pub invariant_of-result : goal.invariant_of-result
invariant_of-result g c = record {
  stored = λ honest alive.
      ∣ stored_of (g.D.Disk.seen c.args.disk) c.args.chosen.side _ _ _ _ (now (g.D.Disk.moments c.args.disk)) (c.requires.chosen honest) (c.requires.on_a honest) (c.requires.on_b honest) ∣₁;
  is_read = c.requires.form;
  made = ∣ c.requires.good ∣₁;
}
