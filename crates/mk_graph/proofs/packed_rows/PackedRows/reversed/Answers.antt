use Rattle.std.proofs.Common.{◌≡◌, ℕ, ◌≤◌, List, length, take, sum, sym, ap, ◌∙◌, subst, arith}
use Rattle.std.specs.Vec.{with_items}
use Rattle.std.proofs.lemmas.List.{with_items_is, length-take-le}
use Rattle.mk_graph.specs.Edges.{times}
use Rattle.mk_graph.specs.Users.{ends_from, AreStarts, HasRoom}
use Rattle.mk_graph.proofs.FillLemmas.{room_of_counts, ends_still, users_still}
use Rattle.mk_graph.proofs.packed_rows.PackedRows.reversed.Goals as goal

pub note_users-requires-clause-room : goal.note_users-requires-clause-room
note_users-requires-clause-room c =
    let g = c.args.self.now in
    let numbers : List ℕ = c.self.inside.numbers.items in
    let counts : List ℕ = c.in_ok-next.next.items in
    let starts' : List ℕ = c.starts_of-size.new.lengths in
    let same : length counts ≡ length g = c.in_ok-next.ensures.nodes ∙ c.len.ensures in
    let given : c.deref_mut.result.now ≡ counts = c.deref_mut.ensures.value in
    let starts : AreStarts (ends_from 0 counts) starts' = subst (λ l. AreStarts (ends_from 0 l) starts') given c.starts_of-size.ensures.starts in
    let total : c.starts_of-size.result ≡ sum counts = c.starts_of-size.ensures.end ∙ ap sum given in
    let few : sum counts ≤ length numbers = subst (λ l. sum counts ≤ length l) c.deref.ensures.value c.in_ok-next.ensures.sum in
    let next : c.deref_mut-2.result.now ≡ starts' = c.deref_mut-2.ensures.value ∙ with_items_is c.in_ok-next.next starts' (grind arith) in
    let cut : c.deref_mut-3.result.now ≡ take c.starts_of-size.result numbers
    = c.deref_mut-3.ensures.value ∙ c.truncate.ensures.items ∙ ap (take c.starts_of-size.result) (c.in_ok-users.ensures.items ∙ c.as_slice.ensures.value) in
    let size : length c.deref_mut-3.result.now ≡ sum counts = ap length cut ∙ length-take-le c.starts_of-size.result numbers (omega arith) ∙ total in
    subst (HasRoom g (length c.deref_mut-3.result.now)) (sym next)
    (room_of_counts g numbers c.self.inside.ends.items counts starts' (length c.deref_mut-3.result.now) c.self.invariant c.self.view_is same
    (λ n below. c.in_ok-next.ensures.times n (omega (arith, same, below)) ∙ ap (times n) c.deref.ensures.value) starts size)

pub note_users-requires-clause-few : goal.note_users-requires-clause-few
note_users-requires-clause-few c =
    let numbers : List ℕ = c.self.inside.numbers.items in
    let counts : List ℕ = c.in_ok-next.next.items in
    let total : c.starts_of-size.result ≡ sum counts = c.starts_of-size.ensures.end ∙ ap sum c.deref_mut.ensures.value in
    let few : sum counts ≤ length numbers = subst (λ l. sum counts ≤ length l) c.deref.ensures.value c.in_ok-next.ensures.sum in
    let cut : c.deref_mut-3.result.now ≡ take c.starts_of-size.result numbers
    = c.deref_mut-3.ensures.value ∙ c.truncate.ensures.items ∙ ap (take c.starts_of-size.result) (c.in_ok-users.ensures.items ∙ c.as_slice.ensures.value) in
    let size : length c.deref_mut-3.result.now ≡ sum counts = ap length cut ∙ length-take-le c.starts_of-size.result numbers (omega arith) ∙ total in
    let limit = c.in_ok-next.ensures.few in
    omega arith

pub invariant_of-result : goal.invariant_of-result
invariant_of-result c =
    let next' : List ℕ = c.note_users.new.next in
    let users' : List ℕ = c.note_users.new.users in
    ends_still users' _ next' _ (length c.deref_mut-3.result.now)
    (with_items_is c.truncate.new.self users' (grind arith))
    (with_items_is (with_items c.in_ok-next.next c.starts_of-size.new.lengths) next' (grind arith))
    c.note_users.auto.users c.in_ok-note_users.ensures.ends

pub returns : goal.returns
returns c =
    let next' : List ℕ = c.note_users.new.next in
    let users' : List ℕ = c.note_users.new.users in
    users_still c.args.self.now users' _ next' _
    (with_items_is c.truncate.new.self users' (grind arith))
    (with_items_is (with_items c.in_ok-next.next c.starts_of-size.new.lengths) next' (grind arith))
    c.in_ok-note_users.ensures.users
