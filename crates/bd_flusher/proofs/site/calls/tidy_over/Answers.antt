use Rattle.std.proofs.Common.{refl, ap}
use Rattle.bd_flusher.specs.Over.{over_facts}
use Rattle.bd_flusher.proofs.SiteLemmas.{site_with, tidied_or_dead}
use Rattle.bd_flusher.proofs.FlushLemmas.{dead_unchanged}
use Rattle.bd_flusher.proofs.site.calls.tidy_over.Goals as goal

-- the store that `tidy_store` leaves, in the site's place
pub returns-clause-site : goal.returns-clause-site
returns-clause-site g c =
    let old = over_facts g.S.AnyStore.parts_of c.args.site.now in
    let new = g.S.AnyStore.parts_of c.tidy_store.new.store in
    let call = c.tidy_store.ensures in
    let left = tidied_or_dead {honest = g.D.Disk.honest} {moments = g.D.Disk.moments} old new.disk new.dead c.requires.0 call.any_moment
    (λ dead. let same = dead_unchanged c.tidy_store.result _ (call.dead.1 dead) call.unchanged in (ap (λ p. p.disk) same.0, ap (λ p. p.dead) same.0)) in
    (site_with g.D.Disk.honest g.D.Disk.moments old new old.ends c.tidy_store.new.size c.requires.0 call.newest call.state refl left.0 left.1, c.requires.1)
