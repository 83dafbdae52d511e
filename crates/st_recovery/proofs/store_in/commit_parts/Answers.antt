use Rattle.std.proofs.Common.{◌≡◌, ◌∙◌, rules}
use Rattle.st_disk.proofs.MomentLaws.{at_end}
use Rattle.st_state.specs.State.{replay}
use Rattle.st_file.proofs.CommitLemmas.{ends_closed, grown}
use Rattle.st_recovery.proofs.StoredLemmas.{commits, uncommitted, stored_after}
use Rattle.st_recovery.proofs.store_in.commit_parts.Goals as goal

pub append-requires-clause-gate : goal.append-requires-clause-gate
append-requires-clause-gate g c = ends_closed c.args.newest _ c.args.records.now (c.deref.ensures.value ∙ c.in_ok-text.ensures.text)

pub returns-in_err-text-clause-any_moment : goal.returns-in_err-text-clause-any_moment
returns-in_err-text-clause-any_moment g c = λ honest alive. uncommitted c.args.log.now.side _ _ (c.requires.stored honest alive)

pub returns-in_err-staged-clause-any_moment : goal.returns-in_err-staged-clause-any_moment
returns-in_err-staged-clause-any_moment g c = λ honest alive. uncommitted c.args.log.now.side _ _ (c.requires.stored honest alive)

pub returns-in-Ok-clause-any_moment : goal.returns-in-Ok-clause-any_moment
returns-in-Ok-clause-any_moment g c = λ honest alive.
    commits (c.requires.stored honest alive) c.in_ok-text.ensures.form c.in_ok-text.ensures.fills (c.deref.ensures.value ∙ c.in_ok-text.ensures.text) (c.append.ensures.any_moment honest)

pub returns-clause-any_moment : goal.returns-clause-any_moment
returns-clause-any_moment g c = λ honest alive.
    commits (c.requires.stored honest alive) c.in_ok-text.ensures.form c.in_ok-text.ensures.fills (c.deref.ensures.value ∙ c.in_ok-text.ensures.text) (c.append.ensures.any_moment honest)

pub returns-in-Ok-clause-stored : goal.returns-in-Ok-clause-stored
returns-in-Ok-clause-stored g c = λ honest still.
    let taken_in : c.finish.result ≡ replay c.args.state.now c.args.records.now = search rules in
    stored_after (g.D.Disk.seen c.append.new.self.disk) (g.D.Disk.moments c.args.log.now.disk) (g.D.Disk.moments c.append.new.self.disk)
    (c.requires.stored honest c.in_ok-text.ensures.alive) c.in_ok-text.ensures.form c.in_ok-text.ensures.fills (c.deref.ensures.value ∙ c.in_ok-text.ensures.text)
    (c.in-Ok.ensures.opened honest) (at_end (c.append.ensures.any_moment honest)).away_same c.in-Ok.ensures.ok.0 taken_in
    c.append.ensures.side c.append.ensures.form c.append.ensures.generation

pub returns-in-Ok-clause-held : goal.returns-in-Ok-clause-held
returns-in-Ok-clause-held g c = λ honest held holds.
    grown holds c.in_ok-text.ensures.form c.in_ok-text.ensures.fills (c.deref.ensures.value ∙ c.in_ok-text.ensures.text) (c.in-Ok.ensures.opened honest) c.in-Ok.ensures.ok.0
