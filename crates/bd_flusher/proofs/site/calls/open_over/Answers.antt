use Rattle.std.proofs.Common.{◌≡◌, subst, ◌∙◌, arith}
use Rattle.bd_flusher.specs.Site.{facts_in, first_facts_in, IsSiteIn}
use Rattle.bd_flusher.proofs.SiteLemmas.{first_site}
use Rattle.bd_flusher.proofs.site.calls.open_over.Goals as goal

-- the copy is the store's state, and every pair recovers that
pub returns-in-Ok-clause-site : goal.returns-in-Ok-clause-site
returns-in-Ok-clause-site g c =
    let p = g.S.AnyStore.parts_of c.args.store in
    let copied : c.in-Ok.opening ≡ p.state = c.in-Ok.ensures.equal ∙ c.map.ensures in
    let same : first_facts_in p.disk p.side p.form p.newest p.generation p.end p.state
    ≡ facts_in p c.in-Ok.opening c.new.result.items c.new-in-Ok.result.items c.new-in-Ok-2.result.items c.new-in-Ok-3.result.items c.end-size.result = cc in (
      subst (IsSiteIn g.D.Disk.honest g.D.Disk.moments) same
          (first_site g.D.Disk.honest g.D.Disk.moments p.disk p.side p.form p.newest p.generation p.end p.state
          (λ honest. g.met.S.AnyStore.recovers c.args.store honest c.requires)),
      omega arith,
    )
