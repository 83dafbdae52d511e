use Rattle.std.proofs.Common.{◌≡◌, ℕ, ◌+◌, ◌<◌, ◌≤◌, List, length, get_or, take, slice_index, arith, rules}
use Rattle.mk_graph.specs.Edges.{times}
use Rattle.bd_links.proofs.ListLemmas.{times_room, below_from_positive}
use Rattle.bd_places.proofs.tally.count_down.Goals as goal

room : (us ms old : List ℕ) (i : ℕ) → i < length us → ((u : ℕ) → times u us ≤ slice_index old u)
    → ((u : ℕ) → slice_index ms u + times u (take i us) ≡ slice_index old u) → 1 ≤ get_or ms (get_or us i 0) 0
room us ms old i h enough counted =
    let a = enough (get_or us i 0) in let b = counted (get_or us i 0) in let r = times_room us i h in omega arith

pub offset_bounds-missing-user : goal.offset_bounds-missing-user
offset_bounds-missing-user c =
    let one = room c.args.users.now c.loop-user.missing c.args.missing.now c.loop-user.user-index c.loop-user-test.true c.requires c.loop-user.invariant in
    let below = below_from_positive c.loop-user.missing (get_or c.args.users.now c.loop-user.user-index 0) one in
    search rules

pub bounds-missing-user : goal.bounds-missing-user
bounds-missing-user c =
    below_from_positive c.loop-user.missing (get_or c.args.users.now c.loop-user.user-index 0)
    (room c.args.users.now c.loop-user.missing c.args.missing.now c.loop-user.user-index c.loop-user-test.true c.requires c.loop-user.invariant)

pub overflow_sub-missing : goal.overflow_sub-missing
overflow_sub-missing c =
    room c.args.users.now c.loop-user.missing c.args.missing.now c.loop-user.user-index c.loop-user-test.true c.requires c.loop-user.invariant
