use Rattle.std.proofs.Common.{◌≡◌, ℕ, ◌+◌, ◌<◌, ◌≤◌, ◌++◌, List, length, replicate, slice_index, sym, subst, arith}
use Rattle.mk_graph.specs.Edges.{row, times}
use Rattle.mk_graph.specs.Users.{filled, CanTake}
use Rattle.mk_graph.proofs.FillLemmas.{filling_none, filling_room, filling_more, filled_ends, filled_users}
use Rattle.mk_graph.proofs.packed_rows.PackedRows.note_users.Goals as goal

pub loop-node-init : goal.loop-node-init
loop-node-init c = filling_none c.args.self.now (length c.args.users.now) c.args.users.now c.args.next.now c.requires.room

pub note_user-requires-clause-room : goal.note_user-requires-clause-room
note_user-requires-clause-room c =
    let g = c.args.self.now in
    let k = c.loop-node.node in
    let next : List ℕ = c.loop-node.next in
    let users : List ℕ = c.loop-node.users in
    let size = length c.args.users.now in
    let within : k < length g = omega arith in
    let same_size : length users ≡ size = c.loop-node.auto.users in
    let P : ℕ → List ℕ → Type 0 = λ size ps. (n : ℕ) → n < length next → slice_index next n + times n ps ≤ size in
    subst (P (length users)) (sym c.row.ensures) (subst (λ s. P s (row g k)) (sym same_size) (filling_room g k size users next c.loop-node.invariant within))

pub loop-node-preserved : goal.loop-node-preserved
loop-node-preserved c =
    let g = c.args.self.now in
    let k = c.loop-node.node in
    let next : List ℕ = c.loop-node.next in
    let users : List ℕ = c.loop-node.users in
    let next' : List ℕ = c.note_user.new.next in
    let users' : List ℕ = c.note_user.new.users in
    let size = length c.args.users.now in
    let within : k < length g = omega arith in
    let same_size : length users ≡ size = c.loop-node.auto.users in
    let long_next : length next' ≡ length next = grind arith in
    let P : List ℕ → Type 0 = λ ps. (n : ℕ) → n < length next → slice_index next' n ≡ slice_index next n + times n ps in
    let Q : ℕ → List ℕ → Type 0 = λ size ps. (ends : List ℕ) → CanTake size ends next ps → (n : ℕ) → n < length ends
    → filled users' ends next' n ≡ filled users ends next n ++ replicate (times n ps) k in
    filling_more g k size users next c.loop-node.invariant users' next' within long_next
    (subst P c.row.ensures c.note_user.ensures.next)
    (subst (λ s. Q s (row g k)) same_size (subst (Q (length users)) c.row.ensures c.note_user.ensures.rows))

pub returns-clause-ends : goal.returns-clause-ends
returns-clause-ends c =
    filled_ends c.args.self.now c.loop-node.node (length c.args.users.now) c.loop-node.users c.loop-node.next c.loop-node.invariant (omega arith)

pub returns-clause-users : goal.returns-clause-users
returns-clause-users c =
    filled_users c.args.self.now c.loop-node.node (length c.args.users.now) c.loop-node.users c.loop-node.next c.loop-node.invariant (omega arith)
