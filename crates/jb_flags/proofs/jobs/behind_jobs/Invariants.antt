use Rattle.std.proofs.Common.{◌≡◌, length}
use Rattle.jb_flags.specs.Jobs.{behind_jobs}
use Rattle.jb_flags.proofs.jobs.behind_jobs.Given as goal

abbrev pub invariant-loop-letter : goal.invariant-loop-letter
invariant-loop-letter l = behind_jobs l.rest ≡ behind_jobs l.fn.letters

abbrev pub decreases-loop-letter : goal.decreases-loop-letter
decreases-loop-letter l = length l.rest
