use Rattle.std.proofs.Common.{◌≡◌, drop}
use Rattle.std.specs.List.{flat_map}
use Rattle.mk_rule_lines.specs.Explicit.{order_only_in}
use Rattle.mk_rule_lines.proofs.ExplicitLemmas.{names_at}
use Rattle.mk_sources.proofs.rules.Rules.may_have_order_only.Given as goal

abbrev pub invariant-loop-number : goal.invariant-loop-number
invariant-loop-number l = flat_map (names_at order_only_in l.self.lines.now) (drop l.number-index l.numbers) ≡ flat_map (names_at order_only_in l.self.lines.now) l.numbers
