use Rattle.std.specs.List.{flat_map}
use Rattle.std.proofs.Common.{◌≡◌, ◌++◌, drop, map}
use Rattle.mk_makefile.proofs.DoubleLemmas.{part}
use Rattle.mk_rule_lines.proofs.ExplicitLemmas.{names_at}
use Rattle.mk_makefile.proofs.doubles.double_lines.Given as goal

abbrev pub invariant-loop-number : goal.invariant-loop-number
invariant-loop-number l =
    map (λ line. line.now) l.found.items ++ flat_map (names_at part l.lines) (drop l.number-index l.numbers) ≡ flat_map (names_at part l.lines) l.numbers
