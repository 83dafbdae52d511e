use Rattle.std.proofs.Common.{◌≡◌, ℕ, ◌+◌, ◌<◌, ◌++◌, List, length, take, replicate, slice_index}
use Rattle.mk_graph.specs.Edges.{times}
use Rattle.mk_graph.specs.Users.{filled, CanTake}
use Rattle.mk_graph.proofs.users.note_user.Given as goal

abbrev pub invariant-loop-prerequisite : goal.invariant-loop-prerequisite
invariant-loop-prerequisite l = record {
  counted : (n : ℕ) → n < length l.fn.next → slice_index l.next n ≡ slice_index l.fn.next n + times n (take l.prerequisite-index l.prerequisites);
  noted : (ends : List ℕ) → CanTake (length l.fn.users) ends l.fn.next l.prerequisites → (n : ℕ) → n < length ends
      → filled l.users ends l.next n ≡ filled l.fn.users ends l.fn.next n ++ replicate (times n (take l.prerequisite-index l.prerequisites)) l.node;
}
