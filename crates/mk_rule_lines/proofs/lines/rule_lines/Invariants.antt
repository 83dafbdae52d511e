use Rattle.std.proofs.Common.{◌≡◌, length}
use Rattle.std.specs.Vec.Iter.{into_iter_items, into_iter_len}
use Rattle.mk_macros.specs.Ranks.{defined_by}
use Rattle.mk_rule_lines.proofs.LineLemmas.{SoFar}
use Rattle.mk_rule_lines.proofs.lines.rule_lines.Given as goal

abbrev pub invariant-loop-item : goal.invariant-loop-item
invariant-loop-item l = record {
  left : into_iter_len l.item-iterator ≡ length (into_iter_items l.item-iterator);
  so_far : SoFar (defined_by l.fn.macros) l.fn.items.items (defined_by l.macros) l.lines.items (into_iter_items l.item-iterator);
}
