use Rattle.std.proofs.Common.{◌≡◌, ◌++◌, map}
use Rattle.mk_makefile.specs.Source.{with_stem}
use Rattle.mk_makefile.proofs.form.with_stems.Given as goal

abbrev pub invariant-loop-pattern : goal.invariant-loop-pattern
invariant-loop-pattern l = l.names ++ map (with_stem l.folder l.stem) l.pattern-iterator ≡ map (with_stem l.folder l.stem) l.patterns
