use Rattle.std.proofs.Common.{subst}
use Rattle.st_state.specs.State.{StateMap}
use Rattle.dmk_run.specs.Known.{IsTold}
use Rattle.dmk_run.proofs.building.told.Goals as goal

pub returns-in-Ok-checked-clause-report : goal.returns-in-Ok-checked-clause-report
returns-in-Ok-checked-clause-report g c =
    (c.in-Ok.report, c.in-Ok.is, subst (λ (m : StateMap). IsTold c.args.graph.now c.args.counting c.args.keeps_state m c.in-Ok.report c.in-Ok-checked.report) c.state.ensures c.in-Ok-checked.ensures)
