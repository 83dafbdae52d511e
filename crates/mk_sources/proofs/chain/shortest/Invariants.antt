use Rattle.std.proofs.Common.{◌≡◌, ◌-◌, List, ℕ, Option, Some, None}
use Rattle.mk_nodes.specs.Chain.{chained, source_in}
use Rattle.mk_sources.specs.Looks.{Looks}
use Rattle.mk_sources.specs.There.{is_there}
use Rattle.mk_nodes.specs.declared.file_look.FileLook.{FileLook}
use Rattle.mk_sources.proofs.chain.shortest.Given as goal

abbrev pub invariant-loop-fewer : goal.invariant-loop-fewer
invariant-loop-fewer g l = record {
  none : (looks : List ℕ → Option FileLook) → g.T.Tree.allows l.tree looks → source_in (is_there l.makers.targets.now looks) l.makers.forms.now (l.fewer - 1) l.name ≡ None;
  longest : (looks : List ℕ → Option FileLook) → g.T.Tree.allows l.tree looks → Some l.longest ≡ chained (is_there l.makers.targets.now looks) l.makers.forms.now l.steps l.name;
  looks : Looks (g.T.Tree.allows l.fn.tree) (g.T.Tree.allows l.tree) (g.T.Tree.refuses l.fn.tree) (g.T.Tree.refuses l.tree) (g.T.Tree.asked l.fn.tree) (g.T.Tree.asked l.tree) (g.T.Tree.firsts l.fn.tree) (g.T.Tree.firsts l.tree);
}
