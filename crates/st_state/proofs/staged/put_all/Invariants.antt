use Rattle.std.proofs.Common.{◌≡◌, ◌≤◌, length}
use Rattle.indexmap.specs.IndexMap.{spare}
use Rattle.st_state.specs.State.{by_name, replay}
use Rattle.st_state.proofs.staged.put_all.Given as goal

-- what is left makes of the map what all the records make of it at the start, and there is room for each
abbrev pub invariant-loop-event : goal.invariant-loop-event
invariant-loop-event l =
    (replay (by_name (λ k. k) l.entries.entries) l.event-iterator.rest.items
    ≡ replay (by_name (λ k. k) l.initial.entries.entries) l.initial.event-iterator.rest.items)
    × (length l.event-iterator.rest.items ≤ spare l.entries)
