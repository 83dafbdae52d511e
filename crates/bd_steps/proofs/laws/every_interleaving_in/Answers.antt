use Rattle.bd_steps.proofs.PromiseLemmas.{every_interleaving_in}
use Rattle.bd_steps.proofs.laws.every_interleaving_in.Goals as goal

pub returns : goal.returns
returns c = every_interleaving_in
