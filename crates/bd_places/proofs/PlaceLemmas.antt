-- What moves of nodes keep of the tables beside the lists.
use Rattle.std.proofs.Common.{◌≡◌, ◌≢◌, ℕ, ◌+◌, ◌<◌, ◌≤◌, Bool, true, false, cond, not, ◌||◌, ◌⊎◌, inl, inr, List, [], ◌∷◌, ◌++◌, slice_get, is_some, refl, sym, ap, ◌∙◌, subst, ⊎_elim, arith, true≢false, append-nil, eqb, eq-eqb, eqb-true}
use Rattle.std.proofs.lemmas.List.Folds.{list_any-append}
use Rattle.mk_graph.specs.Edges.{has}
use Rattle.bd_places.specs.declared.places.Places.TheInside.{Inside}
use Rattle.bd_links.specs.declared.stand.Stand.{Stand}
use Rattle.bd_links.specs.declared.stand.Stand.TheVariants.{Waiting, Ready, Running, Unflushed, Flushing, Settled}
use Rattle.bd_links.specs.Linked.{Linked}
use Rattle.bd_links.specs.SixLists.{SixLists, list_in, code, same_stand, moved, joined, StandsIn, IsEachOnce}
use Rattle.bd_places.specs.Settling.{Prerequisites, Standing, standing, is_under_way, is_free, IsStanding}
use Rattle.bd_places.specs.Tally.{prerequisites_of, IsTallied}
use Rattle.bd_places.specs.Placed.{Placed, holds_any, IsUnderWay, is_open, IsOpen}
use Rattle.bd_places.specs.Places.{placed_of, ArePlaces}
use Rattle.bd_links.proofs.ListLemmas.{times-append, without-none}
use Rattle.bd_links.proofs.LinkedLemmas.{same_from_code}
use Rattle.bd_places.proofs.TallyLemmas.{has-times}
use Rattle.bd_places.proofs.StandingLemmas.{below_from_has, nowhere_else, none_from_has, IsStanding-moved}

pub some_first : (xs : List ℕ) → is_some (slice_get xs 0) ≡ holds_any xs
some_first [] = refl
some_first (x ∷ xs) = refl

under_way_is_not_settled : (s : Stand) → is_under_way s ≡ true → code s ≢ 5
under_way_is_not_settled Waiting under e = true≢false (sym under)
under_way_is_not_settled Ready under e = absurd (omega arith)
under_way_is_not_settled Running under e = absurd (omega arith)
under_way_is_not_settled Unflushed under e = absurd (omega arith)
under_way_is_not_settled Flushing under e = absurd (omega arith)
under_way_is_not_settled Settled under e = true≢false (sym under)

settled-moved : (n : ℕ) (to : Stand) (l : SixLists) → is_under_way to ≡ true → has l.settled n ≡ false → (moved n to l).settled ≡ l.settled
settled-moved n Waiting l under fresh = absurd (true≢false (sym under))
settled-moved n Ready l under fresh = append-nil _ ∙ without-none n l.settled (none_from_has l.settled n fresh)
settled-moved n Running l under fresh = append-nil _ ∙ without-none n l.settled (none_from_has l.settled n fresh)
settled-moved n Unflushed l under fresh = append-nil _ ∙ without-none n l.settled (none_from_has l.settled n fresh)
settled-moved n Flushing l under fresh = append-nil _ ∙ without-none n l.settled (none_from_has l.settled n fresh)
settled-moved n Settled l under fresh = absurd (true≢false (sym under))

-- ---- a node under way goes to another such list

module _ (a : Inside) (p : Placed) (are : placed_of a ≡ p) (is : ArePlaces a) (n : ℕ) (under : IsUnderWay p.standing.lists n) where
  stands_here : has (list_in a.links.lists under.0) n ≡ true
  stands_here = subst (λ (q : Placed). has (list_in q.standing.lists under.0) n ≡ true) (sym are) under.2

  pub put_below : n < a.links.nodes
  put_below = below_from_has a.links.nodes a.links.lists is.standing.each_once under.0 n stands_here

  put_fresh : has a.links.lists.settled n ≡ false
  put_fresh = nowhere_else a.links.nodes a.links.lists is.standing.each_once under.0 Settled n (under_way_is_not_settled under.0 under.1) stands_here

  pub put_kept : (to : Stand) (links : Linked) → is_under_way to ≡ true → links ≡ record a.links { lists = moved n to a.links.lists } → ArePlaces (record a { links = links })
  put_kept to links goes e = subst (λ (l : Linked). ArePlaces (record a { links = l })) (sym e) (record {
    nodes = is.nodes;
    standing = IsStanding-moved (prerequisites_of a.tally) a.links.nodes (standing a.links.lists a.ends.items) is.standing n put_below to put_fresh
        (under_way_is_not_settled to goes) (is.standing.free under.0 n under.1 stands_here);
    tallied = subst (λ xs. IsTallied a.tally xs a.ends.items) (sym (settled-moved n to a.links.lists goes put_fresh)) is.tallied;
  })

-- ---- all of Unflushed goes to Flushing

module _ (g : Prerequisites) (nodes : ℕ) (s : Standing) (is : IsStanding g nodes s) where
  either : (n : ℕ) (b : Bool) → has s.lists.flushing n ≡ b → has (s.lists.flushing ++ s.lists.unflushed) n ≡ true
      → (has s.lists.flushing n ≡ true) ⊎ (has s.lists.unflushed n ≡ true)
  either n true e there = inl e
  either n false e there = inr (ap (λ b. b || has s.lists.unflushed n) (sym e) ∙ sym (list_any-append _ s.lists.flushing s.lists.unflushed) ∙ there)

  pub IsStanding-joined : IsStanding g nodes (record s { lists = joined s.lists })
  IsStanding-joined = record {
    each_once = λ n. let was = is.each_once n in let both = times-append n s.lists.flushing s.lists.unflushed in omega arith;
    ends_nodes = is.ends_nodes;
    ended = is.ended;
    free = by;
  }
    where
      by : (stand : Stand) (n : ℕ) → is_under_way stand ≡ true → has (list_in (joined s.lists) stand) n ≡ true → is_free g (record s { lists = joined s.lists }) n ≡ true
      by Waiting n under there = absurd (true≢false (sym under))
      by Ready n under there = is.free Ready n under there
      by Running n under there = is.free Running n under there
      by Unflushed n under there = absurd (true≢false (sym there))
      by Flushing n under there = ⊎_elim (is.free Flushing n refl) (is.free Unflushed n refl) (either n (has s.lists.flushing n) refl there)
      by Settled n under there = absurd (true≢false (sym under))

pub join_kept : (a : Inside) → ArePlaces a → (links : Linked) → links ≡ record a.links { joins = a.links.joins + 1; lists = joined a.links.lists } → ArePlaces (record a { links = links })
join_kept a is links e = subst (λ (l : Linked). ArePlaces (record a { links = l })) (sym e) (record {
  nodes = is.nodes;
  standing = IsStanding-joined (prerequisites_of a.tally) a.links.nodes (standing a.links.lists a.ends.items) is.standing;
  tallied = is.tallied;
})

-- ---- nodes that can settle

open_apart : (s : Stand) → is_open s ≡ true → (code s ≢ 5) × (code s ≢ 3)
open_apart Waiting e = (λ h. absurd (omega arith), λ h. absurd (omega arith))
open_apart Ready e = (λ h. absurd (omega arith), λ h. absurd (omega arith))
open_apart Running e = (λ h. absurd (omega arith), λ h. absurd (omega arith))
open_apart Unflushed e = absurd (true≢false (sym e))
open_apart Flushing e = (λ h. absurd (omega arith), λ h. absurd (omega arith))
open_apart Settled e = absurd (true≢false (sym e))

-- an open node isn't settled, nor in Unflushed
module _ (nodes : ℕ) (l : SixLists) (once : IsEachOnce nodes l) (n : ℕ) (is : IsOpen l n) where
  pub open_below : n < nodes
  open_below = below_from_has nodes l once is.0 n is.2

  pub open_unsettled : has l.settled n ≡ false
  open_unsettled = nowhere_else nodes l once is.0 Settled n (open_apart is.0 is.1).0 is.2

  pub open_flushed : has l.unflushed n ≡ false
  open_flushed = nowhere_else nodes l once is.0 Unflushed n (open_apart is.0 is.1).1 is.2

-- ---- a node is in the list that it is found in, and in no other

pub has_by_stand : (l : SixLists) (n : ℕ) (r : Stand) → StandsIn l n r → (s : Stand) → has (list_in l s) n ≡ same_stand r s
has_by_stand l n r stands s = has-times (list_in l s) n ∙ ap (λ k. not (eqb k 0)) (stands s) ∙ by (same_stand r s)
  where
    by : (b : Bool) → not (eqb (cond {A = ℕ} b 1 0) 0) ≡ b
    by true = refl
    by false = refl

pub open_by_stand : (l : SixLists) (n : ℕ) (r : Stand) → StandsIn l n r → is_open r ≡ true → IsOpen l n
open_by_stand l n r stands e = (r, e, has_by_stand l n r stands r ∙ eq-eqb (code r) (code r) refl)

pub open_is_by_stand : (l : SixLists) (n : ℕ) (r : Stand) → StandsIn l n r → IsOpen l n → is_open r ≡ true
open_is_by_stand l n r stands is = ap is_open (same_from_code r is.0 (eqb-true (code r) (code is.0) (sym (has_by_stand l n r stands is.0) ∙ is.2))) ∙ is.1

pub nowhere_past : (nodes : ℕ) (l : SixLists) → IsEachOnce nodes l → (n : ℕ) → nodes ≤ n → (s : Stand) → has (list_in l s) n ≡ false
nowhere_past nodes l once n past s = by (has (list_in l s) n) refl
  where
    by : (b : Bool) → has (list_in l s) n ≡ b → has (list_in l s) n ≡ false
    by true e = let lt = below_from_has nodes l once s n e in absurd (omega arith)
    by false e = e

pub shut_past : (nodes : ℕ) (l : SixLists) → IsEachOnce nodes l → (n : ℕ) → nodes ≤ n → IsOpen l n → ⊥
shut_past nodes l once n past is = true≢false (sym is.2 ∙ nowhere_past nodes l once n past is.0)
