use Rattle.std.proofs.Common.{subst}
use Rattle.mk_plan.specs.Passing.{IsFaultAt}
use Rattle.dmk_parts.specs.Behind.{is_faulty}
use Rattle.dmk_parts.proofs.BehindLemmas.{run_alone}
use Rattle.dmk_parts.proofs.causes.is_run_alone.Goals as goal

pub returns-in-Ok : goal.returns-in-Ok
returns-in-Ok c =
    run_alone c.args.counting c.args.graph.now c.args.none.now c.args.node c.in-Ok.passed c.is_listed.result (c.is_listed.ensures c.args.graph.now c.args.node)
    c.in-Ok.ensures.passes

-- a line of the recipe has no expansion
pub returns-in-Err-Macro : goal.returns-in-Err-Macro
returns-in-Err-Macro c =
    is_faulty c.in-Err-Macro.fault (subst (IsFaultAt c.args.graph.now c.args.none.now c.args.node) c.in-Err-Macro.field-0-is c.in-Err-Macro.ensures.fault)
