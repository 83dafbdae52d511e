use Rattle.std.proofs.Common.{sym, ◌∙◌}
use Rattle.mk_plan.specs.Passing.{is_remade, told_in}
use Rattle.mk_levels.proofs.PickedLemmas.{otherwise_picked, found_picked}
use Rattle.mk_levels.proofs.picking.found_by.Goals as goal

pub returns-then-not-is_so : goal.returns-then-not-is_so
returns-then-not-is_so c = λ marks passes.
    let wanted = c.args.wanted.now in
    let graph = c.args.graph.now in
    otherwise_picked wanted.own.now wanted.levels.now wanted.listed graph marks c.args.node (is_remade c.args.passed.now) c.is_remade-is_remade.result
    (told_in graph c.args.node c.args.passed.now) c.is_remade-is_remade.ensures (sym (c.is_so.ensures graph c.args.node) ∙ c.if-not-is_so.true) passes

pub returns : goal.returns
returns c = λ marks passes.
    let wanted = c.args.wanted.now in
    let graph = c.args.graph.now in
    found_picked wanted.own.now wanted.levels.now wanted.listed graph marks c.args.node (is_remade c.args.passed.now) c.is_remade-is_remade.result
    (told_in graph c.args.node c.args.passed.now) c.in_ok-note.note c.is_remade-is_remade.ensures
    (sym (c.is_so.ensures graph c.args.node) ∙ c.if-not-is_so.false) passes
    (rw c.name_of.ensures at c.in_ok-note.ensures.some) (rw c.name_of.ensures at c.in_ok-note.ensures.none)
