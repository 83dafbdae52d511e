use Rattle.std.proofs.Common.{◌≡◌, ◌<◌, take, length, IfSome}
use Rattle.mk_macros.specs.Words.{last_slash}
use Rattle.mk_rule_lines.proofs.patterns.last_slash.Given as goal

abbrev pub invariant-loop-i : goal.invariant-loop-i
invariant-loop-i l = record { value : l.last ≡ last_slash (take l.i l.name); within : IfSome l.last (λ slash. slash < length l.name) }
