use Rattle.st_records.specs.declared.version.Form.TheVariants.{Plain}
use Rattle.bd_lists.proofs.InTurnLemmas.{in_turn}
use Rattle.bd_lists.proofs.laws.each_in_turn.Goals as goal

pub returns : goal.returns
returns c = in_turn Plain
