use Rattle.std.proofs.Common.{◌+◌, map, sym, subst}
use Rattle.mk_plan.specs.Recipe.{IsFaultOf}
use Rattle.mk_plan.proofs.PartLemmas.{LinesSoFar, lines_more, lines_all, none_more, faulty_here, drop_mapped, none_mapped, handed_on}
use Rattle.mk_plan.proofs.recipe.lines_of.Goals as goal

pub loop-line-preserved : goal.loop-line-preserved
loop-line-preserved c =
    let graph = c.args.graph.now in
    let marks = c.args.marks.now in
    let n = c.args.node in
    let recipe = map (λ l. l.now) c.args.recipe.now in
    let k = c.loop-line.line-index in
    let l = c.line-item.result.now in
    let own = c.in_ok-lines_in.field-0.items in
    let at = drop_mapped (λ l. l.now) c.args.recipe.now k c.line-item.result c.loop-line-test.true c.line-item.is in
    record {
      lines = subst (LinesSoFar graph marks n recipe (k + 1)) (sym c.in_ok-append.ensures)
          (lines_more graph marks n recipe k c.loop-line.lines.items own l at c.in_ok-lines_in.ensures.lines c.loop-line.invariant.lines);
      faults = none_more graph marks n recipe k own l at c.in_ok-lines_in.ensures.lines c.loop-line.invariant.faults;
    }

pub returns-clause-lines : goal.returns-clause-lines
returns-clause-lines c =
    let recipe = map (λ l. l.now) c.args.recipe.now in
    lines_all c.args.graph.now c.args.marks.now c.args.node recipe c.loop-line.line-index c.loop-line.lines.items
    (none_mapped (λ l. l.now) c.args.recipe.now c.loop-line.line-index c.loop-line-test.false) c.loop-line.invariant.lines

pub returns-in_err-lines_in-clause-fault : goal.returns-in_err-lines_in-clause-fault
returns-in_err-lines_in-clause-fault c =
    let graph = c.args.graph.now in
    let marks = c.args.marks.now in
    let n = c.args.node in
    let recipe = map (λ l. l.now) c.args.recipe.now in
    let k = c.loop-line.line-index in
    let f = c.in_err-lines_in.field-0.0 in
    let at = drop_mapped (λ l. l.now) c.args.recipe.now k c.line-item.result c.loop-line-test.true c.line-item.is in
    handed_on _ (IsFaultOf graph marks n recipe) f (c.from_residual.ensures).1
    (faulty_here graph marks n recipe k c.line-item.result.now f at c.in_err-lines_in.ensures.fault c.loop-line.invariant.faults)
