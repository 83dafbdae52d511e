use Rattle.std.proofs.Common.{◌≡◌, ℕ, ◌<◌, ◌∷◌, ◌^◌, List, length, slice_index, sym, ◌∙◌, subst, arith}
use Rattle.std.specs.Vec.{with_items}
use Rattle.std.proofs.lemmas.List.{with_items_is}
use Rattle.mk_graph.specs.Users.{AreStarts, HasRoom}
use Rattle.mk_graph.proofs.UserLemmas.{few_numbers}
use Rattle.mk_graph.proofs.FillLemmas.{ends_still, users_still}
use Rattle.mk_graph.proofs.OwnRowLemmas.{room_of_own}
use Rattle.mk_graph.proofs.packed_rows.PackedRows.reversed_into.Goals as goal

pub note_users-requires-clause-room : goal.note_users-requires-clause-room
note_users-requires-clause-room c =
    let g = c.args.self.now in
    let numbers : List ℕ = c.rows.inside.numbers.items in
    let ends : List ℕ = c.rows.inside.ends.items in
    let starts' : List ℕ = c.starts_behind.new.ends in
    let starts : AreStarts ends starts' = subst (λ l. AreStarts l starts') c.deref_mut.ensures.value c.starts_behind.ensures.starts in
    let next : c.deref_mut-2.result.now ≡ starts' = c.deref_mut-2.ensures.value ∙ with_items_is c.rows.inside.ends starts' (grind arith) in
    subst (λ l. HasRoom g (length c.deref_mut-3.result.now) l) (sym next)
    (subst (λ l. HasRoom g (length l) starts') (sym c.deref_mut-3.ensures.value)
    (room_of_own c.args.rows g numbers ends starts' c.rows.invariant c.rows.view_is c.requires.closed c.requires.users starts))

pub note_users-requires-clause-few : goal.note_users-requires-clause-few
note_users-requires-clause-few c =
    let numbers : List ℕ = c.rows.inside.numbers.items in
    let ends : List ℕ = c.rows.inside.ends.items in
    let last : slice_index (0 ∷ ends) (length ends) < 2 ^ 32
    = subst (λ (l : List ℕ). slice_index (0 ∷ l) (length l) < 2 ^ 32) c.deref_mut.ensures.value c.starts_behind.ensures.few in
    subst (λ (l : List ℕ). length l < 2 ^ 32) (sym c.deref_mut-3.ensures.value) (few_numbers (length numbers) ends c.rows.invariant last)

pub invariant_of-result : goal.invariant_of-result
invariant_of-result c =
    let next' : List ℕ = c.note_users.new.next in
    let users' : List ℕ = c.note_users.new.users in
    ends_still users' _ next' _ (length c.deref_mut-3.result.now)
    (with_items_is c.rows.inside.numbers users' (grind arith))
    (with_items_is (with_items c.rows.inside.ends c.starts_behind.new.ends) next' (grind arith))
    c.note_users.auto.users c.in_ok-note_users.ensures.ends

pub returns : goal.returns
returns c =
    let next' : List ℕ = c.note_users.new.next in
    let users' : List ℕ = c.note_users.new.users in
    users_still c.args.self.now users' _ next' _
    (with_items_is c.rows.inside.numbers users' (grind arith))
    (with_items_is (with_items c.rows.inside.ends c.starts_behind.new.ends) next' (grind arith))
    c.in_ok-note_users.ensures.users
