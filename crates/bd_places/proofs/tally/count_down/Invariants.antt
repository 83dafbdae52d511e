use Rattle.std.proofs.Common.{◌≡◌, ℕ, ◌+◌, take, slice_index}
use Rattle.mk_graph.specs.Edges.{times}
use Rattle.bd_places.proofs.tally.count_down.Given as goal

-- the users so far are counted down
abbrev pub invariant-loop-user : goal.invariant-loop-user
invariant-loop-user l = (u : ℕ) → slice_index l.missing u + times u (take l.user-index l.users) ≡ slice_index l.fn.missing u
