use Rattle.std.proofs.Common.{sym, subst}
use Rattle.st_disk.specs.Moments.{now}
use Rattle.st_records.specs.declared.version.Form.{Form}
use Rattle.st_records.specs.declared.version.Form.TheVariants.{Plain}
use Rattle.st_records.specs.Forms.{form_of}
use Rattle.st_file.specs.Layout.{IsReadIn}
use Rattle.st_recovery.proofs.StoredLemmas.{stored_along}
use Rattle.st_recovery.proofs.AnewLemmas.{keepable_by_version}
use Rattle.st_recovery.proofs.store_in.StoreIn.by_version.Goals as goal

pub version_of-version-requires : goal.version_of-version-requires
version_of-version-requires g c = subst (λ (f : Form). IsReadIn f c.args.self.log.form) c.requires c.args.self.is_read

pub invariant_of-result : goal.invariant_of-result
invariant_of-result g c = record {
  stored = λ honest alive.
      stored_along (g.D.Disk.seen c.args.self.log.disk) (now (g.D.Disk.moments c.args.self.log.disk)) c.args.self.log.side c.args.self.newest Plain c.args.self.log.form (form_of c.version_of-version.result)
      c.args.self.log.generation c.args.self.log.end c.args.self.state (sym c.requires) c.version_of-version.ensures (c.args.self.stored honest alive);
  keepable = keepable_by_version c.args.self.log.form c.args.self.state (subst (λ (f : Form). IsReadIn f c.args.self.log.form) c.requires c.args.self.is_read) c.args.self.made;
}
