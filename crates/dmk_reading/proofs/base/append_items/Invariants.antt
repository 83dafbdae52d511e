use Rattle.std.proofs.Common.{◌≡◌, ◌++◌, drop}
use Rattle.std.specs.List.{flat_map}
use Rattle.dmk_reading.specs.Base.{item_text}
use Rattle.dmk_reading.proofs.base.append_items.Given as goal

abbrev pub invariant-loop-item : goal.invariant-loop-item
invariant-loop-item l = l.text.items ++ flat_map item_text (drop l.item-index l.items) ≡ l.fn.text.items ++ flat_map item_text l.items
