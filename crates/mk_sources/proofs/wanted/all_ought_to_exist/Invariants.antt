use Rattle.std.proofs.Common.{◌≡◌, ◌||◌, true, map, List, ◌++◌, ℕ}
use Rattle.std.specs.List.{list_all}
use Rattle.mk_makefile.specs.Source.{with_stem}
use Rattle.mk_nodes.specs.Prerequisites.{is_target}
use Rattle.mk_nodes.specs.Wanted.{is_wanted}
use Rattle.mk_sources.proofs.wanted.all_ought_to_exist.Given as goal

abbrev pub invariant-loop-pattern : goal.invariant-loop-pattern
invariant-loop-pattern l =
    (before : List (List ℕ)) × (l.form.prerequisites ≡ before ++ l.pattern-iterator)
    × (list_all (λ n. is_target l.rules.lines.now n || is_wanted l.rules.lines.now n) (map (with_stem l.folder l.stem) before) ≡ true)
