use Rattle.std.proofs.Common.{◌≡◌}
use Rattle.mk_gnu_items.specs.Rules.{special_in}
use Rattle.mk_gnu_items.proofs.rules.special_in.Given as goal

abbrev pub invariant-loop-target : goal.invariant-loop-target
invariant-loop-target l = special_in l.target-iterator ≡ special_in l.targets
