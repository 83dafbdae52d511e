use Rattle.std.proofs.Common.{◌≡◌, false, rules, subst}
use Rattle.st_records.specs.declared.version.Form.{Form}
use Rattle.jb_closing.specs.Closing.{AreTrueOf}
use Rattle.st_disk.specs.Moments.{now}
use Rattle.jb_closing.proofs.ClosingLemmas.{all_true}
use Rattle.jb_closing.proofs.closing.Closed.report.Goals as goal

pub refused_at-requires : goal.refused_at-requires
refused_at-requires g c = c.args.graph.now.distinct

pub returns-in-None-clause-built : goal.returns-in-None-clause-built
returns-in-None-clause-built g c =
    let s = c.args.self.now.site in
    let agreed = rw (c.told-told.ensures.told, c.deref.ensures.value, c.in-None.is) at c.in_ok-refused_at.ensures.ok in
    let same : s.newest ≡ c.args.form = search rules in
    subst (λ (f : Form). AreTrueOf f s.told c.args.receipts.now (g.D.Disk.honest × (s.dead ≡ false)) (now (g.D.Disk.moments s.disk)) c.args.graph.now.names c.args.report.ends.items) same
    (all_true s.newest s.opening s.told c.args.receipts.now (g.D.Disk.honest × (s.dead ≡ false)) (now (g.D.Disk.moments s.disk)) c.args.graph.now.names
    c.args.report.ends.items agreed.0 (λ sound. c.told-told.ensures.site.recovers sound.0 sound.1) agreed.1)

pub returns-in-Some-clause-fault : goal.returns-in-Some-clause-fault
returns-in-Some-clause-fault g c =
    let refused = rw (c.told-told.ensures.told, c.deref.ensures.value, c.in-Some.is) at c.in_ok-refused_at.ensures.ok in
    rw c.new.ensures refused
