use Rattle.mk_rule_lines.proofs.ResultLemmas.{if_ok}
use Rattle.dmk_trust.proofs.TakingLemmas.{faulty_taken}
use Rattle.dmk_trust.proofs.taking.take.Goals as goal

pub returns-in-Err : goal.returns-in-Err
returns-in-Err c =
    if_ok c.found_faulty.result _ _
    (λ found is. faulty_taken c.args.form c.args.graph.now c.args.marks.now c.args.node c.in-Err.fault found.is_remade found.note c.in-Err.ensures.fault is)
    c.found_faulty.ensures
