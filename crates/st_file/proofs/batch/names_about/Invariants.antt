use Rattle.std.proofs.Common.{length}
use Rattle.st_file.proofs.batch.names_about.Given as goal

abbrev pub decreases-loop-rest : goal.decreases-loop-rest
decreases-loop-rest l = length l.rest
