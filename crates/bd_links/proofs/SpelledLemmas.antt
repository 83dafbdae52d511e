-- What the moves do to the tables of links and marks.
use Rattle.std.proofs.Common.{◌≡◌, ◌≢◌, ℕ, ◌+◌, ◌<◌, ◌≤◌, Bool, true, false, cond, nat_lt, List, length, get_or, set, slice_index, refl, sym, ap, ◌∙◌, subst, ⊎_elim, arith, lt-ltb, ltb-true, get_or-set_same, get_or-set_other, length-set}
use Rattle.std.proofs.lemmas.Bool.{cases_eq}
use Rattle.bd_links.specs.declared.stand.Stand.{Stand}
use Rattle.bd_links.specs.declared.stand.Stand.TheVariants.{Waiting, Ready, Running, Unflushed, Flushing, Settled}
use Rattle.bd_links.specs.declared.mark.Mark.{Mark}
use Rattle.bd_links.specs.Ring.{IsRing}
use Rattle.bd_links.specs.Mark.{stand_after, stand_now, mark_at}
use Rattle.bd_links.specs.SixLists.{SixLists, code, moved, joined}
use Rattle.bd_links.specs.Linked.{linked_lists, IsSpelled}
use Rattle.bd_links.proofs.RingLemmas.{Unlinks, Splices, IsRing-unlink, IsRing-splice}
use Rattle.bd_links.proofs.LinkedLemmas.{code_below, stand_joined, first_not_end, lists_spelled, IsLinked-move, IsLinked-join}

-- ---- two writes, read at a place

module _ (xs : List ℕ) (i v j w : ℕ) (in_i : i < length xs) (in_j : j < length xs) where
  at_second : get_or (set (set xs i v) j w) j 0 ≡ w
  at_second = get_or-set_same (set xs i v) j w 0 (subst (λ n. j < n) (sym (length-set xs i v)) in_j)

  at_first : i ≢ j → get_or (set (set xs i v) j w) i 0 ≡ v
  at_first ne = get_or-set_other (set xs i v) j i w 0 ne ∙ get_or-set_same xs i v 0 in_i

  elsewhere : (y : ℕ) → y ≢ i → y ≢ j → get_or (set (set xs i v) j w) y 0 ≡ get_or xs y 0
  elsewhere y ne me = get_or-set_other (set xs i v) j y w 0 me ∙ get_or-set_other xs i y v 0 ne

  pub length_twice : length (set (set xs i v) j w) ≡ length xs
  length_twice = length-set (set xs i v) j w ∙ length-set xs i v

-- ---- the steps

module _ (next prev : List ℕ) (n : ℕ) (same : length next ≡ n) (same_prev : length prev ≡ n)
    (ring : IsRing (slice_index next) (slice_index prev) n) where
  pub unlinks : (next1 prev1 : List ℕ) (p : ℕ) → p < n
      → next1 ≡ set (set next (get_or prev p 0) (get_or next p 0)) p p → prev1 ≡ set (set prev (get_or next p 0) (get_or prev p 0)) p p
      → Unlinks (slice_index next) (slice_index prev) (slice_index next1) (slice_index prev1) p
  unlinks next1 prev1 p in_p e d = record {
    next_own = read p ∙ at_second next (get_or prev p 0) (get_or next p 0) p p before in_next;
    next_over = λ ne. read (get_or prev p 0) ∙ at_first next (get_or prev p 0) (get_or next p 0) p p before in_next ne;
    next_same = λ y ne me. read y ∙ elsewhere next (get_or prev p 0) (get_or next p 0) p p before in_next y me ne;
    prev_own = read_back p ∙ at_second prev (get_or next p 0) (get_or prev p 0) p p behind in_prev;
    prev_over = λ ne. read_back (get_or next p 0) ∙ at_first prev (get_or next p 0) (get_or prev p 0) p p behind in_prev ne;
    prev_same = λ y ne me. read_back y ∙ elsewhere prev (get_or next p 0) (get_or prev p 0) p p behind in_prev y me ne;
  }
    where
      before : get_or prev p 0 < length next
      before = let h = ring.prev_in p in_p in omega arith

      behind : get_or next p 0 < length prev
      behind = let h = ring.next_in p in_p in omega arith

      in_next : p < length next
      in_next = omega arith

      in_prev : p < length prev
      in_prev = omega arith

      read : (y : ℕ) → slice_index next1 y ≡ get_or (set (set next (get_or prev p 0) (get_or next p 0)) p p) y 0
      read y = ap (λ l. get_or l y 0) e

      read_back : (y : ℕ) → slice_index prev1 y ≡ get_or (set (set prev (get_or next p 0) (get_or prev p 0)) p p) y 0
      read_back y = ap (λ l. get_or l y 0) d

  pub splices : (next1 prev1 : List ℕ) (end start : ℕ) → end < n → start < n
      → next1 ≡ set (set next (get_or prev end 0) start) (get_or prev start 0) end → prev1 ≡ set (set prev start (get_or prev end 0)) end (get_or prev start 0)
      → Splices (slice_index next) (slice_index prev) (slice_index next1) (slice_index prev1) end start
  splices next1 prev1 end start in_end in_start e d = record {
    next_tail = read (get_or prev start 0) ∙ at_second next (get_or prev end 0) start (get_or prev start 0) end last tail;
    next_last = λ ne. read (get_or prev end 0) ∙ at_first next (get_or prev end 0) start (get_or prev start 0) end last tail ne;
    next_same = λ y ne me. read y ∙ elsewhere next (get_or prev end 0) start (get_or prev start 0) end last tail y me ne;
    prev_end = read_back end ∙ at_second prev start (get_or prev end 0) end (get_or prev start 0) first final;
    prev_start = λ ne. read_back start ∙ at_first prev start (get_or prev end 0) end (get_or prev start 0) first final ne;
    prev_same = λ y ne me. read_back y ∙ elsewhere prev start (get_or prev end 0) end (get_or prev start 0) first final y me ne;
  }
    where
      last : get_or prev end 0 < length next
      last = let h = ring.prev_in end in_end in omega arith

      tail : get_or prev start 0 < length next
      tail = let h = ring.prev_in start in_start in omega arith

      first : start < length prev
      first = omega arith

      final : end < length prev
      final = omega arith

      read : (y : ℕ) → slice_index next1 y ≡ get_or (set (set next (get_or prev end 0) start) (get_or prev start 0) end) y 0
      read y = ap (λ l. get_or l y 0) e

      read_back : (y : ℕ) → slice_index prev1 y ≡ get_or (set (set prev start (get_or prev end 0)) end (get_or prev start 0)) y 0
      read_back y = ap (λ l. get_or l y 0) d

  pub ring_unlinked : (next1 prev1 : List ℕ) (p : ℕ) → p < n
      → next1 ≡ set (set next (get_or prev p 0) (get_or next p 0)) p p → prev1 ≡ set (set prev (get_or next p 0) (get_or prev p 0)) p p
      → IsRing (slice_index next1) (slice_index prev1) n × (length next1 ≡ n) × (length prev1 ≡ n)
  ring_unlinked next1 prev1 p in_p e d = (
    IsRing-unlink (slice_index next) (slice_index prev) (slice_index next1) (slice_index prev1) n p ring in_p (unlinks next1 prev1 p in_p e d),
    ap length e ∙ length-set (set next (get_or prev p 0) (get_or next p 0)) p p ∙ length-set next (get_or prev p 0) (get_or next p 0) ∙ same,
    ap length d ∙ length-set (set prev (get_or next p 0) (get_or prev p 0)) p p ∙ length-set prev (get_or next p 0) (get_or prev p 0) ∙ same_prev,
  )

  pub ring_spliced : (next1 prev1 : List ℕ) (end start : ℕ) → end < n → start < n → start ≢ end
      → next1 ≡ set (set next (get_or prev end 0) start) (get_or prev start 0) end → prev1 ≡ set (set prev start (get_or prev end 0)) end (get_or prev start 0)
      → IsRing (slice_index next1) (slice_index prev1) n × (length next1 ≡ n) × (length prev1 ≡ n)
  ring_spliced next1 prev1 end start in_end in_start two e d = (
    IsRing-splice (slice_index next) (slice_index prev) (slice_index next1) (slice_index prev1) n end start ring in_end in_start two
        (splices next1 prev1 end start in_end in_start e d),
    ap length e ∙ length-set (set next (get_or prev end 0) start) (get_or prev start 0) end ∙ length-set next (get_or prev end 0) start ∙ same,
    ap length d ∙ length-set (set prev start (get_or prev end 0)) end (get_or prev start 0) ∙ length-set prev start (get_or prev end 0) ∙ same_prev,
  )

-- ---- a node goes to the end of a list

module _ (next prev next1 prev1 next2 prev2 : List ℕ) (marks : List Mark) (nodes joins p end : ℕ) (to : Stand) (l : SixLists)
    (was : IsSpelled next prev marks nodes joins l) (in_p : p < nodes) (is_end : end ≡ nodes + code to)
    (out : next1 ≡ set (set next (get_or prev p 0) (get_or next p 0)) p p) (out_back : prev1 ≡ set (set prev (get_or next p 0) (get_or prev p 0)) p p)
    (back_in : next2 ≡ set (set next1 (get_or prev1 end 0) p) (get_or prev1 p 0) end)
    (back_in_back : prev2 ≡ set (set prev1 p (get_or prev1 end 0)) end (get_or prev1 p 0)) where
  steps_out : Unlinks (slice_index next) (slice_index prev) (slice_index next1) (slice_index prev1) p
  steps_out = unlinks next prev (nodes + 6) was.next_places was.prev_places was.linked.ring next1 prev1 p (omega arith) out out_back

  ring_out : IsRing (slice_index next1) (slice_index prev1) (nodes + 6) × (length next1 ≡ nodes + 6) × (length prev1 ≡ nodes + 6)
  ring_out = ring_unlinked next prev (nodes + 6) was.next_places was.prev_places was.linked.ring next1 prev1 p (omega arith) out out_back

  end_in : end < nodes + 6
  end_in = let h = code_below to in omega arith

  steps_in : Splices (slice_index next1) (slice_index prev1) (slice_index next2) (slice_index prev2) (nodes + code to) p
  steps_in =
      subst (λ e. Splices (slice_index next1) (slice_index prev1) (slice_index next2) (slice_index prev2) e p) is_end
      (splices next1 prev1 (nodes + 6) ring_out.1 ring_out.2 ring_out.0 next2 prev2 end p end_in (omega arith) back_in back_in_back)

  ring_in : IsRing (slice_index next2) (slice_index prev2) (nodes + 6) × (length next2 ≡ nodes + 6) × (length prev2 ≡ nodes + 6)
  ring_in =
      ring_spliced next1 prev1 (nodes + 6) ring_out.1 ring_out.2 ring_out.0 next2 prev2 end p end_in (omega arith) (λ e. absurd (omega arith)) back_in back_in_back

  new_mark : Mark
  new_mark = record { stand = to; joins = joins }

  marked_own : mark_at (set marks p new_mark) p ≡ new_mark
  marked_own = get_or-set_same marks p new_mark (record { stand = Waiting; joins = 0 }) (let h = was.marked in omega arith)

  marked_other : (n : ℕ) → n ≢ p → mark_at (set marks p new_mark) n ≡ mark_at marks n
  marked_other n ne = get_or-set_other marks p n new_mark (record { stand = Waiting; joins = 0 }) ne

  own_stand : (s : Stand) → stand_after joins s joins ≡ s
  own_stand Waiting = refl
  own_stand Ready = refl
  own_stand Running = refl
  own_stand Unflushed = by (nat_lt joins joins) refl
    where
      by : (a : Bool) → nat_lt joins joins ≡ a → cond (nat_lt joins joins) Flushing Unflushed ≡ Unflushed
      by true e = absurd (let h = ltb-true joins joins e in omega arith)
      by false e = ap (λ a. cond a Flushing Unflushed) e
  own_stand Flushing = refl
  own_stand Settled = refl

  pub IsSpelled-move : IsSpelled next2 prev2 (set marks p (record { stand = to; joins = joins })) nodes joins (moved p to l)
  unfolding new_mark
  IsSpelled-move = record {
    next_places = ring_in.1;
    prev_places = ring_in.2;
    marked = length-set marks p (record { stand = to; joins = joins }) ∙ was.marked;
    linked = IsLinked-move (slice_index next) (slice_index prev) (slice_index next1) (slice_index prev1) (slice_index next2) (slice_index prev2)
        (λ n. stand_now joins (mark_at marks n)) (λ n. stand_now joins (mark_at (set marks p new_mark) n)) nodes p to l was.linked in_p steps_out steps_in
        (λ n ne. ap (stand_now joins) (marked_other n ne)) (ap (stand_now joins) marked_own ∙ own_stand to);
    before = λ n in_n. ⊎_elim
        (λ e. subst (λ m. (mark_at (set marks p new_mark) m).joins ≤ joins) (sym e) (subst (λ m. m.joins ≤ joins) (sym marked_own) (omega arith)))
        (λ ne. subst (λ m. m.joins ≤ joins) (sym (marked_other n ne)) (was.before n in_n)) (cases_eq n p);
  }

-- ---- all of Unflushed goes to the end of Flushing

module _ (next prev next1 prev1 : List ℕ) (marks : List Mark) (nodes joins from end first : ℕ) (l : SixLists)
    (was : IsSpelled next prev marks nodes joins l) (is_from : from ≡ nodes + 3) (is_end : end ≡ nodes + 4) (is_first : first ≡ get_or next from 0)
    (over : next1 ≡ set (set next (get_or prev end 0) first) (get_or prev first 0) end)
    (over_back : prev1 ≡ set (set prev first (get_or prev end 0)) end (get_or prev first 0)) where
  first_is : slice_index next (nodes + 3) ≡ first
  first_is = sym (is_first ∙ ap (λ k. get_or next k 0) is_from)

  first_in : first < nodes + 6
  first_in = subst (λ k. k < nodes + 6) first_is (was.linked.ring.next_in (nodes + 3) (omega arith))

  two_rings : first ≢ end
  two_rings e = first_not_end (slice_index next) (slice_index prev) (λ n. stand_now joins (mark_at marks n)) nodes l was.linked (first_is ∙ e ∙ is_end)

  ring_over : IsRing (slice_index next1) (slice_index prev1) (nodes + 6) × (length next1 ≡ nodes + 6) × (length prev1 ≡ nodes + 6)
  ring_over =
      ring_spliced next prev (nodes + 6) was.next_places was.prev_places was.linked.ring next1 prev1 end first (omega arith) first_in two_rings over over_back

  pub ring_joined : IsRing (slice_index next1) (slice_index prev1) (length next1) × (length prev1 ≡ length next1)
  ring_joined = (subst (IsRing (slice_index next1) (slice_index prev1)) (sym ring_over.1) ring_over.0, ring_over.2 ∙ sym ring_over.1)

  steps_over : Splices (slice_index next) (slice_index prev) (slice_index next1) (slice_index prev1) (nodes + 4) (slice_index next (nodes + 3))
  steps_over =
      subst (λ e. Splices (slice_index next) (slice_index prev) (slice_index next1) (slice_index prev1) e (slice_index next (nodes + 3))) is_end
      (subst (λ k. Splices (slice_index next) (slice_index prev) (slice_index next1) (slice_index prev1) end k) (sym first_is)
      (splices next prev (nodes + 6) was.next_places was.prev_places was.linked.ring next1 prev1 end first (omega arith) first_in over over_back))

  one_join_more : (s : Stand) (before : ℕ) → before ≤ joins → stand_after (joins + 1) s before ≡ stand_joined (stand_after joins s before)
  one_join_more Waiting before le = refl
  one_join_more Ready before le = refl
  one_join_more Running before le = refl
  one_join_more Unflushed before le =
      ap (λ a. cond a Flushing Unflushed) (lt-ltb before (joins + 1) (omega arith)) ∙ by (nat_lt before joins)
    where
      by : (a : Bool) → Flushing ≡ stand_joined (cond a Flushing Unflushed)
      by true = refl
      by false = refl
  one_join_more Flushing before le = refl
  one_join_more Settled before le = refl

  module _ (next2 prev2 : List ℕ)
      (gone : next2 ≡ set (set next1 (get_or prev1 from 0) (get_or next1 from 0)) from from)
      (gone_back : prev2 ≡ set (set prev1 (get_or next1 from 0) (get_or prev1 from 0)) from from) where
    ring_gone : IsRing (slice_index next2) (slice_index prev2) (nodes + 6) × (length next2 ≡ nodes + 6) × (length prev2 ≡ nodes + 6)
    ring_gone = ring_unlinked next1 prev1 (nodes + 6) ring_over.1 ring_over.2 ring_over.0 next2 prev2 from (omega arith) gone gone_back

    steps_gone : Unlinks (slice_index next1) (slice_index prev1) (slice_index next2) (slice_index prev2) (nodes + 3)
    steps_gone =
        subst (Unlinks (slice_index next1) (slice_index prev1) (slice_index next2) (slice_index prev2)) is_from
        (unlinks next1 prev1 (nodes + 6) ring_over.1 ring_over.2 ring_over.0 next2 prev2 from (omega arith) gone gone_back)

    pub IsSpelled-join : IsSpelled next2 prev2 marks nodes (joins + 1) (joined l)
    IsSpelled-join = record {
      next_places = ring_gone.1;
      prev_places = ring_gone.2;
      marked = was.marked;
      linked = IsLinked-join (slice_index next) (slice_index prev) (slice_index next1) (slice_index prev1) (slice_index next2) (slice_index prev2)
          (λ n. stand_now joins (mark_at marks n)) (λ n. stand_now (joins + 1) (mark_at marks n)) nodes l was.linked steps_over steps_gone
          (λ n in_n. one_join_more (mark_at marks n).stand (mark_at marks n).joins (was.before n in_n));
      before = λ n in_n. let h = was.before n in_n in omega arith;
    }

-- ---- the lists that tables spell are what contracts see

pub lists_anew : (next prev : List ℕ) (marks : List Mark) (nodes joins : ℕ) (l : SixLists) → IsSpelled next prev marks nodes joins l
    → linked_lists (slice_index next) nodes ≡ l
lists_anew next prev marks nodes joins l is = lists_spelled (slice_index next) (slice_index prev) (λ n. stand_now joins (mark_at marks n)) nodes l is.linked

pub spelled_anew : (next prev : List ℕ) (marks : List Mark) (nodes joins : ℕ) (l : SixLists) → IsSpelled next prev marks nodes joins l
    → IsSpelled next prev marks nodes joins (linked_lists (slice_index next) nodes)
spelled_anew next prev marks nodes joins l is = subst (IsSpelled next prev marks nodes joins) (sym (lists_anew next prev marks nodes joins l is)) is
