use Rattle.dmk_reading.proofs.MakefileLemmas.{items_once}
use Rattle.dmk_reading.proofs.laws.one_makefile.Goals as goal

pub returns : goal.returns
returns c = items_once
