use Rattle.std.proofs.Common.{◌≡◌, ◌++◌, true, List, ℕ, Option, map}
use Rattle.mk_rule_lines.specs.Rules.{has}
use Rattle.mk_sources.specs.Looks.{Looks}
use Rattle.mk_nodes.specs.Prerequisites.{seen_looks}
use Rattle.mk_nodes.specs.declared.file_look.FileLook.{FileLook}
use Rattle.mk_sources.proofs.several.seen_looks.Given as goal

abbrev pub invariant-loop-name : goal.invariant-loop-name
invariant-loop-name g l = record {
  so : (looks : List ℕ → Option FileLook) → g.T.Tree.allows l.tree looks →
      l.found ++ map (seen_looks l.rules.lines.now looks) l.name-iterator ≡ map (seen_looks l.rules.lines.now looks) l.names;
  within : (n : List ℕ) → has n l.name-iterator ≡ true → has n l.names ≡ true;
  looks : Looks (g.T.Tree.allows l.fn.tree) (g.T.Tree.allows l.tree) (g.T.Tree.refuses l.fn.tree) (g.T.Tree.refuses l.tree) (g.T.Tree.asked l.fn.tree) (g.T.Tree.asked l.tree) (g.T.Tree.firsts l.fn.tree) (g.T.Tree.firsts l.tree);
}
