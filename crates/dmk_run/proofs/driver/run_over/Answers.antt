use Rattle.std.proofs.Common.{◌≡◌, ◌∙◌, true, Err, sym, subst}
use Rattle.std.specs.Prelude.{unwrap_or}
use Rattle.st_disk.specs.Moments.{now}
use Rattle.st_state.specs.State.{StateMap}
use Rattle.st_records.specs.declared.version.Form.{Form}
use Rattle.st_file.specs.Layout.{IsReadIn}
use Rattle.st_recovery.specs.Recovers.{IsMadeOf}
use Rattle.st_recovery.specs.Stored.{IsStoredOnIn}
use Rattle.dmk_reading.specs.Keeping.{kept_form}
use Rattle.dmk_reading.proofs.AllowedLemmas.{each_ok}
use Rattle.dmk_parts.specs.Behind.{none_tried}
use Rattle.dmk_reading.specs.Planned.{IsStateOn}
use Rattle.dmk_store.specs.Opened.{RecoversAsBefore}
use Rattle.dmk_parts.specs.Planned.{recorded_in}
use Rattle.dmk_run.specs.Made.{MakesItems}
use Rattle.dmk_parts.specs.Tried.{tried_in}
use Rattle.dmk_run.proofs.DriverLemmas.{made_items, left_as_before}
use Rattle.dmk_run.proofs.driver.run_over.Goals as goal

pub returns-in-Ok-planned-clause-makes : goal.returns-in-Ok-planned-clause-makes
returns-in-Ok-planned-clause-makes g c =
    let plan = c.in-Ok-planned.plan in
    let profile = c.args.goals.profile in
    let definitions = c.args.goals.definitions.items in
    let environment = c.args.means.now.environment.now in
    let targets = c.args.goals.targets in
    let items = c.args.items.items in
    let before = unwrap_or c.args.goals.behind none_tried in
    let seen = g.D.Disk.seen c.args.disk in
    let sides = now (g.D.Disk.moments c.make.result.1) in
    each_ok c.make.result.0 (g.M.Tree.Tree.allows c.planned.new.tree)
    (λ looks s. MakesItems profile definitions environment targets c.args.wishes.now.makes_all c.args.wishes.now.goes_on before looks items true c.args.keeping g.D.Disk.honest seen s sides (tried_in c.make.result.2))
    (λ looks may.
    let (graph, is_graph, all_made, is_judged) = c.in-Ok-planned.ensures.graph looks may in
    let found = subst (λ (f : Form). IsStateOn f true g.D.Disk.honest seen c.in-Ok.store.state) c.kept_form-newest.ensures c.in-Ok.ensures.found in
    made_items profile definitions environment targets c.args.wishes.now.makes_all c.args.wishes.now.goes_on before looks (tried_in c.make.result.2) items true c.args.keeping g.D.Disk.honest seen sides c.in-Ok.store.state
    graph plan.graph plan.conduct.counts_records plan.conduct.keeps_state found is_graph all_made is_judged c.in-Ok-planned.ensures.records c.in-Ok-planned.ensures.keeping plan.conduct.form c.in-Ok-planned.ensures.form c.make.result.0 c.make.ensures.made)

-- what is recorded by the plan is the state of the store that was opened, in the form that the plan writes
same_newest : (newest opened planned : Form) → opened ≡ newest → planned ≡ newest → opened ≡ planned
same_newest newest opened planned of_store of_plan = of_store ∙ sym of_plan

pub make-requires-clause-stored : goal.make-requires-clause-stored
make-requires-clause-stored g c = λ lifetimes outlives honest alive.
    let store = c.in-Ok.store in
    let disk = store.log.disk in
    let plan = c.in-Ok-planned.plan in
    let same = same_newest (kept_form c.args.goals.profile) store.newest plan.conduct.form (c.in-Ok.ensures.newest ∙ c.kept_form-newest.ensures) c.in-Ok-planned.ensures.form in
    subst (λ (f : Form). IsStoredOnIn f (g.D.Disk.seen disk) (now (g.D.Disk.moments disk)) store.log.side store.log.form store.log.generation store.log.end (recorded_in plan)) same
    (subst (λ (m : StateMap). IsStoredOnIn store.newest (g.D.Disk.seen disk) (now (g.D.Disk.moments disk)) store.log.side store.log.form store.log.generation store.log.end m)
    (sym c.in-Ok-planned.ensures.state) (store.stored honest alive))

pub make-requires-clause-is_read : goal.make-requires-clause-is_read
make-requires-clause-is_read g c = λ lifetimes outlives.
    let store = c.in-Ok.store in
    subst (λ (f : Form). IsReadIn f store.log.form)
    (same_newest (kept_form c.args.goals.profile) store.newest c.in-Ok-planned.plan.conduct.form (c.in-Ok.ensures.newest ∙ c.kept_form-newest.ensures) c.in-Ok-planned.ensures.form) store.is_read

pub make-requires-clause-recorded : goal.make-requires-clause-recorded
make-requires-clause-recorded g c = λ lifetimes outlives.
    subst (λ (m : StateMap). ∥ IsMadeOf c.in-Ok.store.log.form m ∥₁) (sym c.in-Ok-planned.ensures.state) c.in-Ok.store.made

-- a store that was opened recovers what its disk did
pub returns-in-Ok-planned-clause-parted : goal.returns-in-Ok-planned-clause-parted
returns-in-Ok-planned-clause-parted g c =
    let before = subst (λ (f : Form). RecoversAsBefore f g.D.Disk.honest (g.D.Disk.seen c.args.disk) (g.D.Disk.seen c.in-Ok.store.log.disk)) c.kept_form-newest.ensures c.in-Ok.ensures.as_before in
    left_as_before (kept_form c.args.goals.profile) g.D.Disk.honest (λ d. g.D.Disk.seen d) c.args.disk c.in-Ok.store.log.disk c.make.result.1 c.make.result.0 before
    c.make.ensures.parted

pub returns-in-Err-planned-clause-parted : goal.returns-in-Err-planned-clause-parted
returns-in-Err-planned-clause-parted g c =
    let before = subst (λ (f : Form). RecoversAsBefore f g.D.Disk.honest (g.D.Disk.seen c.args.disk) (g.D.Disk.seen c.in-Ok.store.log.disk)) c.kept_form-newest.ensures c.in-Ok.ensures.as_before in
    left_as_before (kept_form c.args.goals.profile) g.D.Disk.honest (λ d. g.D.Disk.seen d) c.args.disk c.in-Ok.store.log.disk c.disk_of.result (Err c.in-Err-planned.stop)
    before (λ parted. c.disk_of.ensures)
