use Rattle.std.proofs.Common.{◌≡◌, ◌∙◌, ℕ, List, Option, IfOk, OnOk, subst}
use Rattle.std.specs.FinMap as map
use Rattle.st_disk.specs.declared.which.Which.TheVariants as which
use Rattle.st_disk.specs.Moments.{now, Throughout}
use Rattle.st_records.specs.declared.version.Form.{Form}
use Rattle.st_recovery.specs.Recovers.{RecoversIn}
use Rattle.st_recovery.specs.Stored.{AllRecoverIn}
use Rattle.mk_nodes.specs.declared.file_look.FileLook.{FileLook}
use Rattle.dmk_reading.specs.Keeping.{kept_form}
use Rattle.dmk_reading.specs.Planned.{IsWholeGraphOf}
use Rattle.dmk_trust.specs.Trusted.{AllRecoverOrTaken, ArePossibleOrTaken, IsLeft}
use Rattle.dmk_trust.proofs.TrustingLemmas.{leaves, only_opened, then_trusted}
use Rattle.dmk_trust.proofs.trusting.trust_on.Goals as goal

pub returns-in-Err-clause-any_moment : goal.returns-in-Err-clause-any_moment
returns-in-Err-clause-any_moment g c = λ honest looks may.
    let options = c.args.options.now in
    let wanted = IsWholeGraphOf options.profile options.definitions.items c.args.environment.now options.targets looks c.args.items.items map.empty in
    let seen = g.D.Disk.seen c.args.disk in
    let start = g.D.Disk.moments c.args.disk in
    subst (λ (f : Form). Throughout start (g.D.Disk.moments c.in-Err.disk) (ArePossibleOrTaken f wanted seen (now start))) c.kept_form-newest.ensures
    (only_opened c.kept_form-newest.result wanted seen (now start) (c.in-Err.ensures.any_moment_refused honest))

pub returns-clause-any_moment : goal.returns-clause-any_moment
returns-clause-any_moment g c = λ honest looks may.
    let options = c.args.options.now in
    let wanted = IsWholeGraphOf options.profile options.definitions.items c.args.environment.now options.targets looks c.args.items.items map.empty in
    let seen = g.D.Disk.seen c.args.disk in
    let start = g.D.Disk.moments c.args.disk in
    let store = c.in-Ok.store in
    let opened = g.D.Disk.moments store.log.disk in
    let left = g.D.Disk.moments c.trust_over-found.new.store.log.disk in
    rw c.disk_of_store.ensures
    (subst (λ (f : Form). Throughout start left (ArePossibleOrTaken f wanted seen (now start))) c.kept_form-newest.ensures
    (then_trusted c.kept_form-newest.result wanted seen (now start) store.state (c.in-Ok.ensures.any_moment honest) (c.in-Ok.ensures.found honest)
    (subst (λ (f : Form). Throughout opened left (AllRecoverOrTaken f wanted store.state)) c.in-Ok.ensures.newest (c.trust_over-found.ensures.any_moment honest looks may))))

pub returns-clause-left : goal.returns-clause-left
returns-clause-left g c =
    let options = c.args.options.now in
    let wanted : (List ℕ → Option FileLook) → _ = λ looks.
    IsWholeGraphOf options.profile options.definitions.items c.args.environment.now options.targets looks c.args.items.items map.empty in
    let seen = g.D.Disk.seen c.args.disk in
    let store = c.in-Ok.store in
    let behind = c.trust_over-found.new.store in
    let found = c.trust_over-found.result in
    let sides = now (g.D.Disk.moments behind.log.disk) in
    let allows = g.T.Tree.allows c.trust_over-found.new.tree in
    let opened : g.D.Disk.honest → RecoversIn (kept_form options.profile) (seen which.A) (seen which.B) store.state =
    subst (λ (f : Form). g.D.Disk.honest → RecoversIn f (seen which.A) (seen which.B) store.state) c.kept_form-newest.ensures c.in-Ok.ensures.found in
    let same : store.newest ≡ kept_form options.profile = c.in-Ok.ensures.newest ∙ c.kept_form-newest.ensures in
    rw c.disk_of_store.ensures
    (leaves (kept_form options.profile) g.D.Disk.honest allows wanted seen sides found store.state behind.state opened
    (subst (λ (f : Form). IfOk found (λ it. (looks : List ℕ → Option FileLook) → allows looks → IsLeft f (wanted looks) store.state behind.state it)) same c.trust_over-found.ensures.left)
    (subst (λ (f : Form). g.D.Disk.honest → OnOk found (AllRecoverIn f behind.state sides)) same c.trust_over-found.ensures.recovers))
