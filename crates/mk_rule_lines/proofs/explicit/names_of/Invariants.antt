use Rattle.std.proofs.Common.{◌≡◌, ◌++◌, drop}
use Rattle.std.specs.List.{flat_map}
use Rattle.mk_rule_lines.specs.Explicit.{names_by}
use Rattle.mk_rule_lines.proofs.ExplicitLemmas.{names_at}
use Rattle.mk_rule_lines.proofs.explicit.names_of.Given as goal

abbrev pub invariant-loop-number : goal.invariant-loop-number
invariant-loop-number l =
    l.found ++ flat_map (names_at (names_by l.order_only) l.lines) (drop l.number-index l.numbers) ≡ flat_map (names_at (names_by l.order_only) l.lines) l.numbers
