use Rattle.std.proofs.Common.{◌≡◌, drop}
use Rattle.std.specs.List.{flat_map}
use Rattle.mk_names.specs.Names.{all_added}
use Rattle.mk_makefile.specs.Kinded.{single_targets, all_single_targets}
use Rattle.mk_makefile.proofs.doubles.all_single_targets.Given as goal

abbrev pub invariant-loop-line : goal.invariant-loop-line
invariant-loop-line l = all_added l.names (flat_map single_targets (drop l.line-index l.lines)) ≡ all_single_targets l.lines
