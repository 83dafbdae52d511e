use Rattle.std.proofs.Common.{◌≡◌, length}
use Rattle.std.specs.Vec.Iter.{into_iter_items, into_iter_len}
use Rattle.mk_macros.specs.Ranks.{defined_by}
use Rattle.dmk_reading.proofs.OldLemmas.{LeftSoFar}
use Rattle.dmk_reading.proofs.old_rules.left_items.Given as goal

abbrev pub invariant-loop-item : goal.invariant-loop-item
invariant-loop-item l = record {
  left : into_iter_len l.item-iterator ≡ length (into_iter_items l.item-iterator);
  so_far : LeftSoFar l.old (defined_by l.fn.macros) l.fn.items.items (defined_by l.macros) (into_iter_items l.item-iterator) l.left.items;
}
