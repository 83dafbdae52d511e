use Rattle.std.proofs.Common.{List, ℕ, drop}
use Rattle.mk_rule_lines.specs.Rules.{targets_by}
use Rattle.mk_makefile.specs.Table.{named_at}
use Rattle.mk_makefile.proofs.PlaceLemmas.{LinesGo}
use Rattle.mk_makefile.proofs.table.TargetTable.of_lines.Given as goal

abbrev pub invariant-loop-i : goal.invariant-loop-i
invariant-loop-i l = (name : List ℕ) → LinesGo (targets_by l.suffix_rules l.suffixes) l.i (drop l.i l.lines) l.lines name (named_at l.table name)
