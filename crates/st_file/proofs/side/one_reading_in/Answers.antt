use Rattle.st_file.proofs.ReadingLemmas.{one_reading_in}
use Rattle.st_file.proofs.side.one_reading_in.Goals as goal

pub returns : goal.returns
returns c = one_reading_in
