use Rattle.std.proofs.Common.{◌≡◌, ◌++◌, map}
use Rattle.mk_gnu_items.specs.Rules.{with_stem}
use Rattle.mk_gnu_items.proofs.stems.with_stems.Given as goal

abbrev pub invariant-loop-name : goal.invariant-loop-name
invariant-loop-name l = l.made ++ map (with_stem l.stem) l.name-iterator ≡ map (with_stem l.stem) l.names
