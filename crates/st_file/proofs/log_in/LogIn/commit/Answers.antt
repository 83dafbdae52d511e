use Rattle.std.proofs.Common.{◌∙◌, rules}
use Rattle.st_file.proofs.CommitLemmas.{ends_closed, grown_by, not_grown, grown, grown_by_none}
use Rattle.st_file.proofs.log_in.LogIn.commit.Goals as goal

pub append-requires-clause-gate : goal.append-requires-clause-gate
append-requires-clause-gate g c = ends_closed c.args.form _ c.args.records.now (c.deref.ensures.value ∙ c.in_ok-text.ensures.text)

pub returns-then-is_empty-clause-any_moment : goal.returns-then-is_empty-clause-any_moment
returns-then-is_empty-clause-any_moment g c = λ honest alive held holds. not_grown c.args.records.now (c.args.self.now.ready honest alive) holds

pub returns-then-is_empty-clause-done : goal.returns-then-is_empty-clause-done
returns-then-is_empty-clause-done g c = λ honest held holds. grown_by_none c.args.records.now (search rules) holds

pub returns-in_err-text-clause-any_moment : goal.returns-in_err-text-clause-any_moment
returns-in_err-text-clause-any_moment g c = λ honest alive held holds. not_grown c.args.records.now (c.args.self.now.ready honest alive) holds

pub returns-in_err-append-clause-any_moment : goal.returns-in_err-append-clause-any_moment
returns-in_err-append-clause-any_moment g c = λ honest alive held holds.
    grown_by holds c.in_ok-text.ensures.form c.in_ok-text.ensures.fills (c.deref.ensures.value ∙ c.in_ok-text.ensures.text) (c.append.ensures.any_moment honest)

pub returns-clause-any_moment : goal.returns-clause-any_moment
returns-clause-any_moment g c = λ honest alive held holds.
    grown_by holds c.in_ok-text.ensures.form c.in_ok-text.ensures.fills (c.deref.ensures.value ∙ c.in_ok-text.ensures.text) (c.append.ensures.any_moment honest)

pub returns-clause-done : goal.returns-clause-done
returns-clause-done g c = λ honest held holds.
    grown holds c.in_ok-text.ensures.form c.in_ok-text.ensures.fills (c.deref.ensures.value ∙ c.in_ok-text.ensures.text) (c.in_ok-append.ensures.opened honest) (search rules)
