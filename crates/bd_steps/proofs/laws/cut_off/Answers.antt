use Rattle.st_records.specs.declared.version.Form.TheVariants.{Plain}
use Rattle.bd_steps.proofs.PromiseLemmas.{each_cut_off_in}
use Rattle.bd_steps.proofs.laws.cut_off.Goals as goal

pub returns : goal.returns
returns c = each_cut_off_in Plain
