use Rattle.mk_plan.proofs.KnownLemmas.{node_of_name}
use Rattle.mk_plan.proofs.laws.nodes_by_name.Goals as goal

pub returns : goal.returns
returns c = λ inputs named graph n is within. node_of_name inputs named graph is n within
