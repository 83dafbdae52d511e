use Rattle.std.proofs.Common.{◌≡◌, ◌∙◌, ℕ, List, Option, IfOk, OnOk, subst}
use Rattle.mk_eval.specs.Output.{World}
use Rattle.mk_nodes.specs.declared.file_look.FileLook.{FileLook}
use Rattle.mk_nodes.specs.declared.graph.Graph.{Graph}
use Rattle.st_disk.specs.declared.which.Which.TheVariants as which
use Rattle.st_disk.specs.Moments.{now, Throughout}
use Rattle.st_records.specs.declared.version.Form.{Form}
use Rattle.st_state.specs.State.{StateMap}
use Rattle.st_recovery.specs.Recovers.{RecoversIn}
use Rattle.st_recovery.specs.Stored.{AllRecoverIn}
use Rattle.dmk_reading.specs.Keeping.{kept_form}
use Rattle.dmk_levels.specs.Known.{AreRead, IsAsked}
use Rattle.dmk_taking.specs.Left.{AllRecoverKnown, ArePossibleOrKnown, IsLeft}
use Rattle.dmk_taking.proofs.TakingLemmas.{leaves, only_opened, then_known}
use Rattle.dmk_taking.proofs.storing.take_known.Goals as goal

pub returns-in-Err-clause-any_moment : goal.returns-in-Err-clause-any_moment
returns-in-Err-clause-any_moment g c = λ honest world looks reads tells read.
    let wanted = IsAsked world looks c.args.options.now c.args.environment.now in
    let levels = c.args.levels.now in
    let seen = g.D.Disk.seen c.args.disk in
    let start = g.D.Disk.moments c.args.disk in
    subst (λ (f : Form). Throughout start (g.D.Disk.moments c.in-Err.disk) (ArePossibleOrKnown f wanted levels seen (now start))) c.kept_form-newest.ensures
    (only_opened c.kept_form-newest.result wanted levels seen (now start) (c.in-Err.ensures.any_moment_refused honest))

pub returns-clause-any_moment : goal.returns-clause-any_moment
returns-clause-any_moment g c = λ honest world looks reads tells read.
    let wanted = IsAsked world looks c.args.options.now c.args.environment.now in
    let levels = c.args.levels.now in
    let seen = g.D.Disk.seen c.args.disk in
    let start = g.D.Disk.moments c.args.disk in
    let store = c.in-Ok.store in
    let opened = g.D.Disk.moments store.log.disk in
    let left = g.D.Disk.moments c.take_over-found.new.store.log.disk in
    rw c.disk_of_store.ensures
    (subst (λ (f : Form). Throughout start left (ArePossibleOrKnown f wanted levels seen (now start))) c.kept_form-newest.ensures
    (then_known c.kept_form-newest.result wanted levels seen (now start) store.state (c.in-Ok.ensures.any_moment honest) (c.in-Ok.ensures.found honest)
    (subst (λ (f : Form). Throughout opened left (AllRecoverKnown f wanted levels store.state)) c.in-Ok.ensures.newest
    (c.take_over-found.ensures.any_moment honest world looks reads tells read))))

pub returns-clause-left : goal.returns-clause-left
returns-clause-left g c =
    let options = c.args.options.now in
    let environment = c.args.environment.now in
    let levels = c.args.levels.now in
    let wanted : World → (List ℕ → Option FileLook) → StateMap → Graph → Type 0 = λ world looks. IsAsked world looks options environment in
    let read : World → (List ℕ → Option FileLook) → Type 0 = λ world looks. AreRead world looks options environment c.args.items.items in
    let seen = g.D.Disk.seen c.args.disk in
    let store = c.in-Ok.store in
    let behind = c.take_over-found.new.store in
    let found = c.take_over-found.result in
    let sides = now (g.D.Disk.moments behind.log.disk) in
    let reads = g.I.Includes.allows c.take_over-found.new.includes in
    let tells = g.T.Tree.allows c.take_over-found.new.tree in
    let opened : g.D.Disk.honest → RecoversIn (kept_form options.profile) (seen which.A) (seen which.B) store.state =
    subst (λ (f : Form). g.D.Disk.honest → RecoversIn f (seen which.A) (seen which.B) store.state) c.kept_form-newest.ensures c.in-Ok.ensures.found in
    let same : store.newest ≡ kept_form options.profile = c.in-Ok.ensures.newest ∙ c.kept_form-newest.ensures in
    rw c.disk_of_store.ensures
    (leaves (kept_form options.profile) g.D.Disk.honest reads tells read wanted levels seen sides found store.state behind.state opened
    (subst (λ (f : Form). IfOk found (λ it. (world : World) (looks : List ℕ → Option FileLook) → reads world → tells looks → read world looks
    → IsLeft f (wanted world looks) levels store.state behind.state it)) same c.take_over-found.ensures.left)
    (subst (λ (f : Form). g.D.Disk.honest → OnOk found (AllRecoverIn f behind.state sides)) same c.take_over-found.ensures.recovers))
