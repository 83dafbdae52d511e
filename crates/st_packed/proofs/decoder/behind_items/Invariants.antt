use Rattle.std.proofs.Common.{◌≡◌, ◌-◌, IsTrue, List, ℕ}
use Rattle.st_records.specs.Clean.{AreClean}
use Rattle.st_records.specs.Reading.{items_at}
use Rattle.st_packed.proofs.Items.{with_front}
use Rattle.st_packed.proofs.decoder.behind_items.Given as goal

-- the strings that were passed over, which are clean if all is
abbrev pub invariant-loop : goal.invariant-loop
invariant-loop l = (front : List (List ℕ))
    × (with_front front (items_at (l.count - l.counter) l.rest) ≡ items_at l.count l.bytes)
    × (IsTrue l.found → IsTrue l.clean × AreClean l.form front)
