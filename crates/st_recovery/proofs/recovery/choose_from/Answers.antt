use Rattle.std.proofs.Common.{sym, subst}
use Rattle.st_state.specs.Keepable.{AllCanBeKept}
use Rattle.st_recovery.proofs.AnewLemmas.{made_keepable}
use Rattle.st_recovery.proofs.recovery.choose_from.Goals as goal

pub returns-in-Some-clause-keepable : goal.returns-in-Some-clause-keepable
returns-in-Some-clause-keepable g c =
    let is_read = rw c.in-Some.is at c.in_ok-choose_from_in.ensures.form in
    let made = rw c.in-Some.is at c.in_ok-choose_from_in.ensures.good in
    subst AllCanBeKept (sym c.by_version.ensures.state) (made_keepable c.in-Some.chosen.extent.form c.in-Some.chosen.state is_read made)
