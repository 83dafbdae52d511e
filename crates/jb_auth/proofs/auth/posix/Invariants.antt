use Rattle.std.proofs.Common.{◌+◌, length}
use Rattle.std.specs.Option.{option_map_or}
use Rattle.jb_auth.specs.Auth.{AsksForPosix}
use Rattle.jb_auth.proofs.AuthLemmas.{AsksBehind}
use Rattle.jb_auth.proofs.auth.posix.Given as goal

-- the flags ask for it where what is left of them does
abbrev pub invariant-loop-rest : goal.invariant-loop-rest
invariant-loop-rest l = (AsksBehind l.rest → AsksForPosix l.makeflags) × (AsksForPosix l.makeflags → AsksBehind l.rest)

abbrev pub decreases-loop-rest : goal.decreases-loop-rest
decreases-loop-rest l = option_map_or (λ text. length text.now + 1) l.rest 0
