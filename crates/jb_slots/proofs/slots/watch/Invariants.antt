use Rattle.std.proofs.Common.{◌≡◌}
use Rattle.jb_slots.proofs.slots.watch.Given as goal

-- no look has found anything so far, so the end is as it was
abbrev pub invariant-loop : goal.invariant-loop
invariant-loop g l = (goal.iterator-loop g).can_next l.iterator' × (goal.iterator-loop g).is_finite l.iterator'
    × (g.B.Bank.state l.bank ≡ g.B.Bank.state l.fn.bank)
