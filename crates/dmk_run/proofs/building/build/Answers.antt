use Rattle.std.proofs.Common.{◌≡◌, IsOk, sym, subst, ◌∙◌}
use Rattle.st_disk.specs.Moments.{now}
use Rattle.st_records.specs.declared.version.Form.{Form}
use Rattle.st_recovery.specs.Stored.{AllRecoverIn}
use Rattle.st_recovery.proofs.StoredLemmas.{all_recover}
use Rattle.dmk_run.proofs.BuildingLemmas.{is_made, where_told, well_told, borne_told, same_told}
use Rattle.dmk_run.proofs.building.build.Goals as goal

pub returns-clause-newest : goal.returns-clause-newest
returns-clause-newest g c = λ ok.
    rw c.told.ensures.store
    (c.into_store.ensures.newest
    ∙ where_told c.args.graph.now c.args.conduct.counts_records c.args.conduct.keeps_state c.into_store.result.state c.run_slotted-found.result.0 c.told.result.found
    (c.run_slotted-found.result.1.site.newest ≡ c.args.conduct.form) c.run_slotted-found.ensures.newest c.told.ensures.report ok)

pub returns-clause-recovers : goal.returns-clause-recovers
returns-clause-recovers g c = λ ok honest.
    let store = c.into_store.result in
    let moments = g.D.Disk.moments store.log.disk in
    let newest : store.newest ≡ c.args.conduct.form =
    c.into_store.ensures.newest
    ∙ where_told c.args.graph.now c.args.conduct.counts_records c.args.conduct.keeps_state c.into_store.result.state c.run_slotted-found.result.0 c.told.result.found
    (c.run_slotted-found.result.1.site.newest ≡ c.args.conduct.form) c.run_slotted-found.ensures.newest c.told.ensures.report ok in
    rw c.told.ensures.store
    (subst (λ (f : Form). AllRecoverIn f store.state (now moments)) newest (all_recover store.log.side (now moments) (store.stored honest (c.told.ensures.alive ok))))

pub returns-clause-well : goal.returns-clause-well
returns-clause-well g c =
    well_told c.args.graph.now c.args.conduct.counts_records c.args.conduct.keeps_state c.into_store.result.state c.run_slotted-found.result.0 c.told.result.found c.run_slotted-found.ensures.well c.told.ensures.report

pub returns-clause-borne_out : goal.returns-clause-borne_out
returns-clause-borne_out g c = borne_told c.args.graph.now c.args.conduct.counts_records c.args.conduct.keeps_state c.into_store.result.state c.run_slotted-found.result.0 c.told.result.found c.told.ensures.report

pub returns-clause-same : goal.returns-clause-same
returns-clause-same g c =
    same_told c.args.graph.now c.args.conduct.counts_records c.args.conduct.keeps_state c.into_store.result.state c.args.conduct.form c.run_slotted-found.result.0 c.told.result.found c.run_slotted-found.ensures.same c.told.ensures.report

pub returns-clause-made : goal.returns-clause-made
returns-clause-made g c =
    let store = c.into_store.result in
    let moments = g.D.Disk.moments store.log.disk in
    let newest : IsOk c.told.result.found → store.newest ≡ c.args.conduct.form = λ ok.
    c.into_store.ensures.newest
    ∙ where_told c.args.graph.now c.args.conduct.counts_records c.args.conduct.keeps_state c.into_store.result.state c.run_slotted-found.result.0 c.told.result.found
    (c.run_slotted-found.result.1.site.newest ≡ c.args.conduct.form) c.run_slotted-found.ensures.newest c.told.ensures.report ok in
    rw c.told.ensures.store
    (is_made c.args.conduct.form g.D.Disk.honest g.D.Disk.moments c.args.graph.now c.args.conduct.counts_records c.args.conduct.keeps_state c.run_slotted-found.result.0 c.told.result.found c.run_slotted-found.result.1.site store.log.disk store.state
    c.run_slotted-found.ensures.built c.told.ensures.report c.into_store.ensures.disk (λ ok. sym c.into_store.ensures.dead ∙ c.told.ensures.alive ok)
    (λ ok honest. subst (λ (f : Form). AllRecoverIn f store.state (now moments)) (newest ok)
    (all_recover store.log.side (now moments) (store.stored honest (c.told.ensures.alive ok)))))
