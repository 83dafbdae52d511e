use Rattle.std.proofs.Common.{◌≡◌}
use Rattle.mk_names.specs.Names.{all_added}
use Rattle.mk_makefile.proofs.doubles.add_targets.Given as goal

abbrev pub invariant-loop-word : goal.invariant-loop-word
invariant-loop-word l = all_added l.names l.word-iterator ≡ all_added l.fn.names l.line.targets
