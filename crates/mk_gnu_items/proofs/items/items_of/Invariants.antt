use Rattle.std.proofs.Common.{◌≡◌, length, map, Ok}
use Rattle.mk_gnu_eval.specs.Shown.{item_of}
use Rattle.mk_gnu_items.specs.Items.{items_of}
use Rattle.mk_gnu_items.specs.Rules.{joined}
use Rattle.mk_gnu_items.proofs.items.items_of.Given as goal

abbrev pub invariant-loop-item : goal.invariant-loop-item
invariant-loop-item l = joined (Ok l.made.items) (items_of (map item_of l.left)) ≡ items_of (map item_of l.items)

abbrev pub decreases-loop-item : goal.decreases-loop-item
decreases-loop-item l = length l.left
