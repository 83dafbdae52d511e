use Rattle.std.specs.List.{list_any}
use Rattle.std.proofs.Common.{◌≡◌, true, List, ℕ}
use Rattle.mk_names.specs.Names.{has_name}
use Rattle.mk_rule_lines.specs.Rules.{has}
use Rattle.mk_makefile.proofs.doubles.target_among.Given as goal

abbrev pub invariant-loop-target : goal.invariant-loop-target
invariant-loop-target l = record {
  left : list_any (has_name l.names) l.target-iterator ≡ list_any (has_name l.names) l.line.targets;
  within : (n : List ℕ) → has n l.target-iterator ≡ true → has n l.line.targets ≡ true;
}
