use Rattle.std.proofs.Common.{◌≡◌, take}
use Rattle.jb_flags.proofs.handing.Handed.environment.Given as goal

abbrev pub invariant-loop-given : goal.invariant-loop-given
invariant-loop-given l = l.all.items ≡ take l.given-index l.env
