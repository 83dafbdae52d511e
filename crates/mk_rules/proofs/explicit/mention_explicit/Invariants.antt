use Rattle.std.proofs.Common.{◌≡◌, ℕ, Bool, List, drop}
use Rattle.std.specs.List.{flat_map}
use Rattle.mk_names.specs.Names.{all_added}
use Rattle.mk_rule_lines.specs.Explicit.{names_in}
use Rattle.mk_rule_lines.proofs.ExplicitLemmas.{names_at}
use Rattle.mk_rules.specs.NodeNotes.{AreKnownNodes}
use Rattle.mk_rules.specs.Row.{named, IsRow}
use Rattle.mk_rules.proofs.explicit.mention_explicit.Given as goal

abbrev pub invariant-loop-number : goal.invariant-loop-number
invariant-loop-number l = record {
  row : (start : List (List ℕ)) → IsRow start l.fn.names l.fn.numbers → IsRow start l.names l.numbers;
  known : (is_node : List ℕ → Bool) (marks : List Bool) → AreKnownNodes is_node l.fn.names marks → AreKnownNodes is_node l.names marks;
  names : all_added (named l.names l.numbers) (flat_map (names_at names_in l.lines) (drop l.number-index l.making))
      ≡ all_added (named l.fn.names l.fn.numbers) (flat_map (names_at names_in l.lines) l.making);
}
