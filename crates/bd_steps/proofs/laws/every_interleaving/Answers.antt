use Rattle.st_records.specs.declared.version.Form.TheVariants.{Plain}
use Rattle.bd_steps.proofs.PromiseLemmas.{every_interleaving_in}
use Rattle.bd_steps.proofs.laws.every_interleaving.Goals as goal

pub returns : goal.returns
returns c = every_interleaving_in Plain
