use Rattle.std.proofs.Common.{List, ℕ, not}
use Rattle.mk_rule_lines.specs.Rules.{lacks_single}
use Rattle.mk_makefile.specs.Table.{named_at}
use Rattle.mk_makefile.proofs.TableLemmas.{Goes}
use Rattle.mk_rule_lines.proofs.TargetLemmas.{chosen}
use Rattle.mk_makefile.proofs.table.TargetTable.add_line.Given as goal

abbrev pub invariant-loop-target : goal.invariant-loop-target
invariant-loop-target l =
    (name : List ℕ) → Goes l.number (not (lacks_single l.line)) (chosen l.suffix_rules l.suffixes l.line l.target-iterator) (chosen l.suffix_rules l.suffixes l.line l.line.targets) name
    (named_at l.self name) (named_at l.fn.self name)
