use Rattle.std.proofs.Common.{sym, subst}
use Rattle.dmk_trust.specs.Taken.{IsDoneOf}
use Rattle.dmk_trust.proofs.TakingLemmas.{found_taken, found_bad}
use Rattle.dmk_trust.proofs.taking.found_left.Goals as goal

pub returns-in-Some : goal.returns-in-Some
returns-in-Some c = λ marks why let_be listed.
    let (commands, recorded, is) = c.in_ok-note.ensures in
    found_taken why c.args.lines.now let_be (commands, recorded, subst (IsDoneOf c.args.form c.args.graph.now c.args.node commands) (sym c.in-Some.ensures.same) is)
    c.in-Some.ensures.good listed

pub returns-in-None : goal.returns-in-None
returns-in-None c = λ marks why let_be listed. found_bad why c.args.lines.now let_be c.in_ok-note.ensures c.in-None.ensures.none listed
