use Rattle.std.proofs.Common.{◌≡◌, true, List, ℕ, Option}
use Rattle.std.specs.FinMap as map
use Rattle.mk_nodes.specs.Prerequisites.{inputs_of, is_node}
use Rattle.mk_rule_lines.specs.Rules.{has}
use Rattle.mk_sources.specs.Looks.{Looks}
use Rattle.mk_rules.specs.NodeNotes.{AreKnownNodes}
use Rattle.mk_rules.specs.Row.{named, IsRow}
use Rattle.mk_rules.proofs.HiddenLemmas.{TakenSoFar}
use Rattle.mk_nodes.specs.declared.file_look.FileLook.{FileLook}
use Rattle.mk_rules.proofs.hidden.add_hidden.Given as goal

abbrev pub invariant-loop-name : goal.invariant-loop-name
invariant-loop-name g l = record {
  noted : (looks : List ℕ → Option FileLook) → g.T.Tree.allows l.tree looks →
      AreKnownNodes (is_node (inputs_of l.rules.lines.now (map.get l.rules.state.now) looks)) l.names l.notes.marks.items;
  row : (start : List (List ℕ)) → IsRow start l.fn.names l.fn.mentioned.nodes → IsRow start l.names l.mentioned.nodes;
  taken : (judged : List (List ℕ)) × ((looks : List ℕ → Option FileLook) → g.T.Tree.allows l.tree looks →
      TakenSoFar (is_node (inputs_of l.rules.lines.now (map.get l.rules.state.now) looks)) (named l.fn.names l.fn.mentioned.nodes) l.hidden l.name-iterator
      judged (named l.names l.mentioned.nodes) l.mentioned.gone l.mentioned.hidden);
  within : (n : List ℕ) → has n l.name-iterator ≡ true → has n l.hidden ≡ true;
  looks : Looks (g.T.Tree.allows l.fn.tree) (g.T.Tree.allows l.tree) (g.T.Tree.refuses l.fn.tree) (g.T.Tree.refuses l.tree) (g.T.Tree.asked l.fn.tree) (g.T.Tree.asked l.tree) (g.T.Tree.firsts l.fn.tree) (g.T.Tree.firsts l.tree);
}
