use Rattle.std.proofs.Common.{refl}
use Rattle.mk_plan.specs.declared.passing.Passed.TheVariants as passed
use Rattle.dmk_trust.proofs.TakingLemmas.{not_run}
use Rattle.dmk_trust.proofs.taking.found_by.Goals as goal

pub returns-in-Remade : goal.returns-in-Remade
returns-in-Remade c = λ passes. not_run c.args.form c.args.graph.now c.args.marks.now c.args.node c.args.passed.now passed.Remade c.in-Remade.is refl passes

pub returns-in-UpToDate : goal.returns-in-UpToDate
returns-in-UpToDate c = λ passes. not_run c.args.form c.args.graph.now c.args.marks.now c.args.node c.args.passed.now passed.UpToDate c.in-UpToDate.is refl passes

pub returns-in-Left : goal.returns-in-Left
returns-in-Left c = λ passes. not_run c.args.form c.args.graph.now c.args.marks.now c.args.node c.args.passed.now passed.Left c.in-Left.is refl passes
