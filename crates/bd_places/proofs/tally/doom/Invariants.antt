use Rattle.std.proofs.Common.{◌≡◌, ℕ, ◌||◌, false, take, slice_index_or}
use Rattle.mk_graph.specs.Edges.{has}
use Rattle.bd_places.proofs.tally.doom.Given as goal

-- the users so far are noted
abbrev pub invariant-loop-user : goal.invariant-loop-user
invariant-loop-user l = (u : ℕ) → slice_index_or l.doomed u false ≡ (slice_index_or l.fn.doomed u false || has (take l.user-index l.users) u)
