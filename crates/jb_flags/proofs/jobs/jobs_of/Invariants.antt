use Rattle.std.proofs.Common.{◌≡◌, true, drop}
use Rattle.std.specs.Option.{option_or}
use Rattle.jb_flags.specs.Jobs.{jobs_of}
use Rattle.jb_flags.proofs.jobs.jobs_of.Given as goal

-- what the words that are left ask for counts before what those so far did
abbrev pub invariant-loop-word : goal.invariant-loop-word
invariant-loop-word l = (option_or (jobs_of l.is_first l.word-iterator) l.jobs ≡ jobs_of true l.words) × (l.ahead ≡ drop 1 l.word-iterator)
