use Rattle.std.proofs.Common.{◌≡◌, ◌<◌, take, length, IfSome}
use Rattle.mk_macros.specs.Words.{last_slash}
use Rattle.mk_macros.proofs.substitution.last_slash.Given as goal

abbrev pub invariant-loop-i : goal.invariant-loop-i
invariant-loop-i l = record { value : l.last ≡ last_slash (take l.i l.word); within : IfSome l.last (λ slash. slash < length l.word) }
