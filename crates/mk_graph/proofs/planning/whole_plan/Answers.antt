use Rattle.mk_graph.proofs.WholeLemmas as whole
use Rattle.mk_graph.proofs.planning.whole_plan.Goals as goal

pub returns : goal.returns
returns c = whole.whole_plan
