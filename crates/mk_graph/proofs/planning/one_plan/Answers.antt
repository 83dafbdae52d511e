use Rattle.std.proofs.Common.{[]}
use Rattle.mk_graph.proofs.PlanLemmas.{one_plan_after}
use Rattle.mk_graph.proofs.planning.one_plan.Goals as goal

pub returns : goal.returns
returns c = λ g order other a b. one_plan_after g [] order other a b
