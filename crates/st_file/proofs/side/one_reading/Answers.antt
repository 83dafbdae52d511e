use Rattle.st_file.proofs.ReadingLemmas.{one_reading}
use Rattle.st_file.proofs.side.one_reading.Goals as goal

pub returns : goal.returns
returns c = one_reading
