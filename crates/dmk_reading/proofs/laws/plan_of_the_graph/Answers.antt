use Rattle.dmk_reading.proofs.PassingLemmas.{passes_each}
use Rattle.dmk_reading.proofs.laws.plan_of_the_graph.Goals as goal

pub returns : goal.returns
returns c = passes_each
