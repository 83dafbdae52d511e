use Rattle.std.proofs.Common.{◌≡◌, ℕ, Bool, List}
use Rattle.mk_names.specs.Names.{all_added}
use Rattle.mk_rules.specs.NodeNotes.{AreKnownNodes}
use Rattle.mk_rules.specs.Row.{named, IsRow}
use Rattle.mk_rules.proofs.mentioned.mention_names.Given as goal

abbrev pub invariant-loop-name : goal.invariant-loop-name
invariant-loop-name l = record {
  row : (start : List (List ℕ)) → IsRow start l.fn.names l.fn.numbers → IsRow start l.names l.numbers;
  known : (is_node : List ℕ → Bool) (marks : List Bool) → AreKnownNodes is_node l.fn.names marks → AreKnownNodes is_node l.names marks;
  names : all_added (named l.names l.numbers) l.name-iterator ≡ all_added (named l.fn.names l.fn.numbers) l.mentioned;
}
