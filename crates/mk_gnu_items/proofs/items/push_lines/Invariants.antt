use Rattle.std.proofs.Common.{◌≡◌, ◌++◌, length, map}
use Rattle.mk_gnu_eval.specs.Shown.{item_of}
use Rattle.mk_gnu_items.specs.Items.{lines_of}
use Rattle.mk_gnu_items.proofs.items.push_lines.Given as goal

abbrev pub invariant-loop-item : goal.invariant-loop-item
invariant-loop-item l = l.recipe ++ lines_of (map item_of l.left) ≡ l.fn.recipe ++ lines_of (map item_of l.items)

abbrev pub decreases-loop-item : goal.decreases-loop-item
decreases-loop-item l = length l.left
