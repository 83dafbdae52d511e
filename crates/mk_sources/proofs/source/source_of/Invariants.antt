use Rattle.std.proofs.Common.{◌≡◌, take, List, ℕ, Option, None}
use Rattle.mk_makefile.specs.Source.{source_of}
use Rattle.mk_sources.specs.Looks.{Looks}
use Rattle.mk_sources.specs.There.{is_there}
use Rattle.mk_nodes.specs.declared.file_look.FileLook.{FileLook}
use Rattle.mk_sources.proofs.source.source_of.Given as goal

abbrev pub invariant-loop-form : goal.invariant-loop-form
invariant-loop-form g l = record {
  none : (looks : List ℕ → Option FileLook) → g.T.Tree.allows l.tree looks → source_of (is_there l.targets looks) (take l.form-index l.forms) l.name ≡ None;
  looks : Looks (g.T.Tree.allows l.fn.tree) (g.T.Tree.allows l.tree) (g.T.Tree.refuses l.fn.tree) (g.T.Tree.refuses l.tree) (g.T.Tree.asked l.fn.tree) (g.T.Tree.asked l.tree) (g.T.Tree.firsts l.fn.tree) (g.T.Tree.firsts l.tree);
}
