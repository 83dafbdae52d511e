use Rattle.dmk_reading.proofs.KeepingLemmas.{keep_lines}
use Rattle.dmk_reading.proofs.laws.one_reading_of_the_settings.Goals as goal

pub returns : goal.returns
returns c = keep_lines
