use Rattle.std.proofs.Common.{map}
use Rattle.mk_plan.proofs.PassingLemmas.{passed_over, passed_listed}
use Rattle.mk_plan.proofs.passing.pass_recipe.Goals as goal

pub returns-in-None-clause-passes : goal.returns-in-None-clause-passes
returns-in-None-clause-passes c =
    passed_over c.args.keeping c.args.graph.now c.args.marks.now c.args.node (map (λ l. l.now) c.args.recipe.now) c.in_ok-lines.lines.items c.deref.result.now c.in_ok-judge_node.field-0
    c.in-None.is c.requires.recipe c.in_ok-lines.ensures.lines c.deref.ensures.value c.in_ok-judge_node.ensures

pub returns-in-Some-clause-passes : goal.returns-in-Some-clause-passes
returns-in-Some-clause-passes c =
    passed_listed c.args.keeping c.args.graph.now c.args.marks.now c.args.node (map (λ l. l.now) c.args.recipe.now) c.in_ok-lines.lines.items c.deref.result.now c.in_ok-judge_node.field-0
    c.in-Some.why c.in-Some.is c.requires.recipe c.in_ok-lines.ensures.lines c.deref.ensures.value c.in_ok-judge_node.ensures
