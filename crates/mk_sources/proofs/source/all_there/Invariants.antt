use Rattle.std.proofs.Common.{◌≡◌, true, map, List, ◌++◌, ℕ, Option}
use Rattle.std.specs.List.{list_all}
use Rattle.mk_sources.specs.Looks.{Looks}
use Rattle.mk_makefile.specs.Source.{with_stem}
use Rattle.mk_sources.specs.There.{is_there}
use Rattle.mk_nodes.specs.declared.file_look.FileLook.{FileLook}
use Rattle.mk_sources.proofs.source.all_there.Given as goal

abbrev pub invariant-loop-pattern : goal.invariant-loop-pattern
invariant-loop-pattern g l = record {
  front : (before : List (List ℕ)) × (l.form.prerequisites ≡ before ++ l.pattern-iterator)
      × ((looks : List ℕ → Option FileLook) → g.T.Tree.allows l.tree looks → list_all (is_there l.targets looks) (map (with_stem l.folder l.stem) before) ≡ true);
  looks : Looks (g.T.Tree.allows l.fn.tree) (g.T.Tree.allows l.tree) (g.T.Tree.refuses l.fn.tree) (g.T.Tree.refuses l.tree) (g.T.Tree.asked l.fn.tree) (g.T.Tree.asked l.tree) (g.T.Tree.firsts l.fn.tree) (g.T.Tree.firsts l.tree);
}
