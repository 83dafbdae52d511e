-- What a look at a settled node leaves, user by user.
use Rattle.std.proofs.Common.{◌≡◌, ℕ, ◌+◌, ◌<◌, ◌≤◌, Bool, true, false, cond, not, ◌&&◌, eqb, nat_eq, List, [], ◌∷◌, length, filter, take, get_or, slice_index, slice_index_or, Option, Some, None, is_some, refl, sym, ap, ◌∙◌, subst, ⊎_elim, arith, true≢false}
use Rattle.std.proofs.lemmas.List.{take_more, take_all, get_or_past}
use Rattle.std.proofs.lemmas.Bool.{cases_lt}
use Rattle.std.proofs.lemmas.List.Elements.{filter-append}
use Rattle.std.proofs.lemmas.List.Folds.{sum_by-zero}
use Rattle.std.specs.List.{list_any, list_all}
use Rattle.mk_graph.specs.Edges.{row, has, times}
use Rattle.bd_places.specs.declared.end.End.{End}
use Rattle.bd_places.specs.declared.tally.Tally.{Tally}
use Rattle.bd_links.specs.declared.stand.Stand.{Stand}
use Rattle.bd_links.specs.declared.stand.Stand.TheVariants.{Waiting}
use Rattle.bd_links.specs.SixLists.{SixLists, same_stand, StandsIn}
use Rattle.bd_places.specs.Settling.{Prerequisites, Standing, is_lost, end_of, is_free, is_doomed, can_go_on, users_of, gone_on, all_gone_on, IsStanding}
use Rattle.bd_places.specs.Tally.{prerequisites_of, lacking, IsTallied}
use Rattle.bd_links.proofs.ListLemmas.{times_room, has-at}
use Rattle.bd_places.proofs.TallyLemmas.{has-times}
use Rattle.bd_places.proofs.StandingLemmas.{has_from_times, none_from_has, all_gone_on-append, times-all_gone_on_other}
use Rattle.bd_places.proofs.UserLemmas.{has-filter, users_in_order}

-- nothing is lacked just where all has settled
lacking-zero : (s xs : List ℕ) → nat_eq (lacking s xs) 0 ≡ list_all (has s) xs
lacking-zero s xs = sum_by-zero (λ x. cond (not (has s x)) 1 0) xs ∙ (λ i. list_all (λ x. zero_is (has s x) i) xs)
  where
    zero_is : (b : Bool) → eqb (cond (not b) 1 0) 0 ≡ b
    zero_is true = refl
    zero_is false = refl

-- whether a node is in Waiting, by the list that it is in
pub waits_by_stand : (l : SixLists) (n : ℕ) (r : Stand) → StandsIn l n r → has l.waiting n ≡ same_stand r Waiting
waits_by_stand l n r stands = has-times l.waiting n ∙ ap (λ k. not (eqb k 0)) (stands Waiting) ∙ by (same_stand r Waiting)
  where
    by : (b : Bool) → not (eqb (cond {A = ℕ} b 1 0) 0) ≡ b
    by true = refl
    by false = refl

-- those of these users that can have gone on
abbrev pub gone_so_far : Prerequisites → Standing → List ℕ → Standing
gone_so_far g s us = all_gone_on (is_doomed g s) (filter (can_go_on g s) us) s

module _ (t : Tally) (nodes : ℕ) (s : Standing) (is : IsStanding (prerequisites_of t) nodes s) (tallied : IsTallied t s.lists.settled s.ends) where
  free_by_count : (u : ℕ) → nat_eq (slice_index t.missing.items u) 0 ≡ is_free (prerequisites_of t) s u
  free_by_count u = ap (λ k. nat_eq k 0) (tallied.missing u) ∙ lacking-zero s.lists.settled (row t.counted u)

  doomed_by_table : (u : ℕ) → slice_index_or t.doomed.items u false ≡ is_doomed (prerequisites_of t) s u
  doomed_by_table u = tallied.doomed u ∙ (λ i. list_any (λ p. lost (end_of s p) (has s.lists.settled p) (is.ended p) i) (row t.hard u))
    where
      lost : (e : Option End) (h : Bool) → is_some e ≡ h → (h && is_lost e) ≡ is_lost e
      lost None h k = ap (λ b. b && false) (sym k)
      lost (Some e) h k = ap (λ b. b && is_lost (Some e)) (sym k)

  -- one more user
  gone_once : (u : ℕ) (b : Bool) (c : Standing)
      → all_gone_on (is_doomed (prerequisites_of t) s) (cond b (u ∷ []) []) c ≡ cond b (gone_on (is_doomed (prerequisites_of t) s u) u c) c
  gone_once u true c = refl
  gone_once u false c = refl

  -- a user that wasn't met yet is in Waiting as it was at first
  still_waiting : (us : List ℕ) (u : ℕ) → times u us ≡ 0 → has (gone_so_far (prerequisites_of t) s us).lists.waiting u ≡ has s.lists.waiting u
  still_waiting us u none =
      has_from_times (gone_so_far (prerequisites_of t) s us).lists.waiting s.lists.waiting u
      (times-all_gone_on_other (is_doomed (prerequisites_of t) s) u (filter (can_go_on (prerequisites_of t) s) us) s Waiting
      (none_from_has (filter (can_go_on (prerequisites_of t) s) us) u (not_in (has-times us u ∙ ap (λ k. not (eqb k 0)) none))))
    where
      and_false : (b : Bool) → (b && false) ≡ false
      and_false true = refl
      and_false false = refl

      not_in : has us u ≡ false → has (filter (can_go_on (prerequisites_of t) s) us) u ≡ false
      not_in e = has-filter (can_go_on (prerequisites_of t) s) us u ∙ ap (λ c. can_go_on (prerequisites_of t) s u && c) e ∙ and_false (can_go_on (prerequisites_of t) s u)

  pub gone_more : (us : List ℕ) (i : ℕ) → i < length us → ((m : ℕ) → times m us ≤ 1) → (c : Standing) → c ≡ gone_so_far (prerequisites_of t) s (take i us)
      → cond (has c.lists.waiting (get_or us i 0) && nat_eq (slice_index t.missing.items (get_or us i 0)) 0)
      (gone_on (slice_index_or t.doomed.items (get_or us i 0) false) (get_or us i 0) c) c
      ≡ gone_so_far (prerequisites_of t) s (take (i + 1) us)
  gone_more us i h once c so_far =
      ap (λ b. cond (b && nat_eq (slice_index t.missing.items (get_or us i 0)) 0) (gone_on (slice_index_or t.doomed.items (get_or us i 0) false) (get_or us i 0) c) c) waiting
      ∙ ap (λ b. cond (has s.lists.waiting (get_or us i 0) && b) (gone_on (slice_index_or t.doomed.items (get_or us i 0) false) (get_or us i 0) c) c) (free_by_count (get_or us i 0))
      ∙ ap (λ b. cond (can_go_on (prerequisites_of t) s (get_or us i 0)) (gone_on b (get_or us i 0) c) c) (doomed_by_table (get_or us i 0))
      ∙ sym (gone_once (get_or us i 0) (can_go_on (prerequisites_of t) s (get_or us i 0)) c)
      ∙ ap (all_gone_on (is_doomed (prerequisites_of t) s) (cond (can_go_on (prerequisites_of t) s (get_or us i 0)) ((get_or us i 0) ∷ []) [])) so_far
      ∙ sym (all_gone_on-append (is_doomed (prerequisites_of t) s) (filter (can_go_on (prerequisites_of t) s) (take i us))
      (filter (can_go_on (prerequisites_of t) s) ((get_or us i 0) ∷ [])) s)
      ∙ ap (λ xs. all_gone_on (is_doomed (prerequisites_of t) s) xs s) (sym (filter-append (can_go_on (prerequisites_of t) s) (take i us) ((get_or us i 0) ∷ [])))
      ∙ ap (gone_so_far (prerequisites_of t) s) (sym (take_more us i 0 h))
    where
      waiting : has c.lists.waiting (get_or us i 0) ≡ has s.lists.waiting (get_or us i 0)
      waiting =
          ap (λ d. has d.lists.waiting (get_or us i 0)) so_far
          ∙ still_waiting (take i us) (get_or us i 0) (let room = times_room us i h in let one = once (get_or us i 0) in omega arith)

-- the users of a node are nodes
pub user_below : (t : Tally) (settled : List ℕ) (ends : List (Option End)) (n u : ℕ) → IsTallied t settled ends → n < length t.counted
    → has (row t.users n) u ≡ true → u < length t.counted
user_below t settled ends n u tallied in_n there = ⊎_elim (λ lt. lt) (λ past. absurd (true≢false (sym there ∙ named ∙ ap (λ l. has l n) (get_or_past t.counted u [] past)))) (cases_lt u (length t.counted))
  where
    named : has (row t.users n) u ≡ has (row t.counted u) n
    named = has-times (row t.users n) u ∙ ap (λ k. not (eqb k 0)) (tallied.users.counts u n in_n) ∙ sym (has-times (row t.counted u) n)

pub users_at_most_once : (t : Tally) (settled : List ℕ) (ends : List (Option End)) (n : ℕ) → IsTallied t settled ends → n < length t.counted
    → (u : ℕ) → times u (row t.users n) ≤ 1
users_at_most_once t settled ends n tallied in_n u = let h = tallied.users.counts u n in_n in let k = tallied.once u n in omega arith

-- ---- the users as a loop meets them

module _ (t : Tally) (settled : List ℕ) (ends : List (Option End)) (n : ℕ) (tallied : IsTallied t settled ends) (in_n : n < length t.counted)
    (us : List ℕ) (are : us ≡ row t.users n) where
  pub met_below : (i : ℕ) → i < length us → get_or us i 0 < length t.counted
  met_below i h = user_below t settled ends n (get_or us i 0) tallied in_n (subst (λ l. has l (get_or us i 0) ≡ true) are (has-at us i h))

  pub met_once : (u : ℕ) → times u us ≤ 1
  met_once u = subst (λ l. times u l ≤ 1) (sym are) (users_at_most_once t settled ends n tallied in_n u)

  pub met_all : (i : ℕ) → length us ≤ i → take i us ≡ users_of (prerequisites_of t) n
  met_all i past = take_all i us past ∙ are ∙ users_in_order (prerequisites_of t) t.users n tallied.users tallied.once in_n
