use Rattle.mk_rule_lines.proofs.ResultLemmas.{if_ok}
use Rattle.mk_levels.proofs.PickedLemmas.{faulty_picked}
use Rattle.mk_levels.proofs.picking.pick.Goals as goal

pub returns-in-Err : goal.returns-in-Err
returns-in-Err c =
    let wanted = c.args.wanted.now in
    if_ok c.found_faulty.result _ _
    (λ found is. faulty_picked wanted.own.now wanted.levels.now wanted.listed c.args.graph.now c.args.marks.now c.args.node c.in-Err.fault found.is_remade found.note
    c.in-Err.ensures.fault is)
    c.found_faulty.ensures
