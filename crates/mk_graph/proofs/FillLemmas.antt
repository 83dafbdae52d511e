-- Rows that are filled with the users of a graph's nodes, node after node.
use Rattle.std.proofs.Common.{◌≡◌, ℕ, ◌+◌, ◌<◌, ◌≤◌, List, ◌∷◌, ◌++◌, length, replicate, sum, sum_by, slice_index, sym, ap, ◌∙◌, subst, arith}
use Rattle.std.proofs.lemmas.List.{take_all}
use Rattle.std.proofs.lemmas.Grind.{same_number_lists}
use Rattle.byte_strings.specs.Pieces.{pieces, AreEnds}
use Rattle.byte_strings.proofs.PieceLemmas.{AreEnds-at}
use Rattle.mk_graph.specs.Edges.{row, times, AreUsers}
use Rattle.mk_graph.specs.Users.{ends_from, filled, AreStarts, CanTake, HasRoom}
use Rattle.mk_graph.proofs.UserLemmas.{Fills, fills_none, fills_more, within_rows, room_left, all_noted, are_ends, length-ends_from, end_of_row, times-pieces}

-- rows with their ends, once the first k nodes are noted in them
pub record Filling (g : List (List ℕ)) (k size : ℕ) (users next : List ℕ) : Type 0 where
  pub ends : List ℕ
  pub are_ends : AreEnds size 0 ends
  pub nodes : length ends ≡ length g
  pub rooms : (n : ℕ) → n < length g → slice_index ends n ≡ slice_index (0 ∷ ends) n + sum_by (times n) g
  pub fills : Fills g k users ends next

pub filling_none : (g : List (List ℕ)) (size : ℕ) (users next : List ℕ) → HasRoom g size next → Filling g 0 size users next
filling_none g size users next room = record {
  ends = room.ends;
  are_ends = room.are_ends;
  nodes = room.nodes;
  rooms = room.rooms;
  fills = fills_none g users room.ends next room.nodes room.are_starts;
}

module _ (g : List (List ℕ)) (k size : ℕ) (users next : List ℕ) (so_far : Filling g k size users next) where
  can_take : k < length g → CanTake size so_far.ends next (row g k)
  can_take within = record {
    are_ends = so_far.are_ends;
    nodes = so_far.fills.nodes ∙ sym so_far.nodes;
    begun = within_rows g k users so_far.ends next so_far.fills so_far.nodes so_far.rooms;
    room = room_left g k users so_far.ends next so_far.fills so_far.nodes so_far.rooms within;
  }

  pub filling_room : k < length g → (n : ℕ) → n < length next → slice_index next n + times n (row g k) ≤ size
  filling_room within n below =
      let take_more = can_take within in
      let there : n < length so_far.ends = let e = take_more.nodes in omega arith in
      let r = take_more.room n there in
      let e = (AreEnds-at size 0 so_far.ends n so_far.are_ends there).1 in
      omega arith

  pub filling_more : (users' next' : List ℕ) → k < length g → length next' ≡ length next
      → ((n : ℕ) → n < length next → slice_index next' n ≡ slice_index next n + times n (row g k))
      → ((ends : List ℕ) → CanTake size ends next (row g k) → (n : ℕ) → n < length ends
      → filled users' ends next' n ≡ filled users ends next n ++ replicate (times n (row g k)) k)
      → Filling g (k + 1) size users' next'
  filling_more users' next' within same counted noted =
      let take_more = can_take within in
      record {
        ends = so_far.ends;
        are_ends = so_far.are_ends;
        nodes = so_far.nodes;
        rooms = so_far.rooms;
        fills = fills_more g k users so_far.ends next so_far.fills so_far.nodes so_far.rooms users' next' within same
            (λ n below. counted n (let e = take_more.nodes in omega arith)) (noted so_far.ends take_more);
      }

  -- once all are noted, the next place of each row is its end
  whole : length g ≤ k → next ≡ so_far.ends
  whole past = same_number_lists next so_far.ends (so_far.fills.nodes ∙ sym so_far.nodes) (λ n below.
      let inside : n < length g = let e = so_far.fills.nodes in omega arith in
      let all = ap (sum_by (times n)) (take_all k g past) in
      let p = so_far.fills.places n inside in
      let r = so_far.rooms n inside in
      omega arith)

  pub filled_ends : length g ≤ k → AreEnds size 0 next
  filled_ends past = subst (AreEnds size 0) (sym (whole past)) so_far.are_ends

  pub filled_users : length g ≤ k → AreUsers g (pieces users 0 next)
  filled_users past =
      subst (λ e. AreUsers g (pieces users 0 e)) (sym (whole past))
      (all_noted g k users so_far.ends next so_far.fills so_far.nodes so_far.rooms past)

-- where rows start whose lengths say how often numbers stand in a graph's rows
pub room_of_counts : (g : List (List ℕ)) (numbers own counts starts : List ℕ) (size : ℕ) → AreEnds (length numbers) 0 own → pieces numbers 0 own ≡ g
    → length counts ≡ length g → ((n : ℕ) → n < length g → slice_index counts n ≡ times n numbers)
    → AreStarts (ends_from 0 counts) starts → size ≡ sum counts → HasRoom g size starts
room_of_counts g numbers own counts starts size are shown same counted starts_are whole = record {
  ends = ends_from 0 counts;
  are_ends = are_ends 0 size counts (omega arith);
  nodes = length-ends_from 0 counts ∙ same;
  rooms = λ n below.
      end_of_row 0 counts n (omega arith)
      ∙ ap (λ k. slice_index (0 ∷ ends_from 0 counts) n + k)
      (counted n below ∙ sym (times-pieces n numbers 0 own are) ∙ ap (sum_by (times n)) shown);
  are_starts = starts_are;
}

-- the same of the same lists
pub ends_still : (users users' ends ends' : List ℕ) (size : ℕ) → users' ≡ users → ends' ≡ ends → length users ≡ size → AreEnds size 0 ends → AreEnds (length users') 0 ends'
ends_still users users' ends ends' size same_users same_ends long are =
    subst (λ k. AreEnds k 0 ends') (sym (ap length same_users ∙ long)) (subst (AreEnds size 0) (sym same_ends) are)

pub users_still : (g : List (List ℕ)) (users users' ends ends' : List ℕ) → users' ≡ users → ends' ≡ ends → AreUsers g (pieces users 0 ends) → AreUsers g (pieces users' 0 ends')
users_still g users users' ends ends' same_users same_ends are =
    subst (λ u. AreUsers g (pieces u 0 ends')) (sym same_users) (subst (λ e. AreUsers g (pieces users 0 e)) (sym same_ends) are)
