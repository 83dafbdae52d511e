use Rattle.bd_steps.proofs.MarkedExample.{some_marked}
use Rattle.bd_steps.proofs.laws.some_interleavings_in.Goals as goal

pub returns : goal.returns
returns c = some_marked
