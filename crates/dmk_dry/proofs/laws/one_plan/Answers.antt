use Rattle.dmk_dry.proofs.OnePlanLemmas.{plan_once}
use Rattle.dmk_dry.proofs.laws.one_plan.Goals as goal

pub returns : goal.returns
returns g c = λ world looks makefiles profile definitions environment targets all goes_on seen a b d e u v.
    plan_once world looks makefiles profile definitions environment targets all goes_on g.D.Disk.honest seen a b d e u v
