use Rattle.std.proofs.Common.{◌≡◌, Ok}
use Rattle.mk_gnu_items.specs.Rules.{joined, each_target}
use Rattle.mk_gnu_items.proofs.rules.add_static.Given as goal

abbrev pub invariant-loop-target : goal.invariant-loop-target
invariant-loop-target l =
    joined (Ok l.out.items) (each_target l.rule (l.pattern.0.items, l.pattern.1.items) l.names l.target-iterator)
    ≡ joined (Ok l.fn.out.items) (each_target l.rule (l.pattern.0.items, l.pattern.1.items) l.names l.names.targets)
