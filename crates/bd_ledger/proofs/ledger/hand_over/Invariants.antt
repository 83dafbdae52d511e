use Rattle.std.proofs.Common.{◌≡◌, ◌+◌, ◌≤◌, ◌++◌, vec_len, vec_capacity}
use Rattle.std.specs.Vec.Iter.{drain_items, drain_len, DrainKeeps}
use Rattle.bd_ledger.proofs.ledger.hand_over.Given as goal

-- with what is left they are what they are to be, there is room for it, and neither has grown
abbrev pub invariant-loop-note : goal.invariant-loop-note
invariant-loop-note l = (goal.iterator-loop-note).can_next l.note-iterator
    × (goal.iterator-loop-note).is_finite l.note-iterator
    × DrainKeeps l.initial.note-iterator l.note-iterator
    × (l.records.items ++ drain_items l.note-iterator ≡ l.initial.records.items ++ drain_items l.initial.note-iterator)
    × (vec_len l.records + drain_len l.note-iterator ≤ vec_capacity l.records)
    × (vec_capacity l.records ≡ vec_capacity l.initial.records)
