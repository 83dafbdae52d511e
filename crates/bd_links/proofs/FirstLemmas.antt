-- The links where all nodes are in Waiting, in number order.
use Rattle.std.proofs.Common.{◌≡◌, ◌≢◌, ℕ, zero, suc, ◌+◌, ◌-◌, ◌<◌, ◌≤◌, Bool, true, false, cond, ◌&&◌, nat_eq, nat_lt, nat_le, List, ◌∷◌, length, map, get_or, replicate, slice_index, refl, sym, ap, ◌∙◌, subst, ⊎_elim, ◌⊎◌, inl, inr, arith, eq-eqb, ne_eqb, lt-ltb}
use Rattle.std.proofs.lemmas.Bool.{cases_eq, cases_lt, le-leb, lt-leb, le-ltb}
use Rattle.std.proofs.lemmas.List.{length-replicate, get_or-replicate, get_or_past}
use Rattle.std.proofs.lemmas.List.FromFn.{length-map-range_with_len, get_or-map-range_with_len}
use Rattle.std.specs.List.{range_with_len}
use Rattle.bd_links.specs.declared.stand.Stand.{Stand}
use Rattle.bd_links.specs.declared.stand.Stand.TheVariants.{Waiting, Ready, Running, Unflushed, Flushing, Settled}
use Rattle.bd_links.specs.declared.mark.Mark.{Mark}
use Rattle.bd_links.specs.Mark.{stand_now, mark_at}
use Rattle.bd_links.specs.Ring.{IsRing, Leads}
use Rattle.mk_graph.specs.Edges.{times}
use Rattle.bd_links.specs.SixLists.{list_in, code, same_stand, all_waiting}
use Rattle.bd_links.specs.Linked.{next_at_first, prev_at_first, IsLinked, IsSpelled}
use Rattle.bd_links.proofs.ListLemmas.{times-head, times-other}
use Rattle.bd_links.proofs.LinkedLemmas.{code_below}

-- the two functions undo one another
next_inside : (nodes p : ℕ) → p < nodes → next_at_first nodes p ≡ p + 1
next_inside nodes p h = ap (λ a. cond a (p + 1) (cond (nat_eq p nodes) 0 p)) (lt-ltb p nodes h)

next_at_end : (nodes : ℕ) → next_at_first nodes nodes ≡ 0
next_at_end nodes =
    ap (λ a. cond a (nodes + 1) (cond (nat_eq nodes nodes) 0 nodes)) (le-ltb nodes nodes (omega arith)) ∙ ap (λ a. cond a 0 nodes) (eq-eqb nodes nodes refl)

next_outside : (nodes p : ℕ) → nodes < p → next_at_first nodes p ≡ p
next_outside nodes p h =
    ap (λ a. cond a (p + 1) (cond (nat_eq p nodes) 0 p)) (le-ltb p nodes (omega arith)) ∙ ap (λ a. cond a 0 p) (ne_eqb p nodes (λ e. absurd (omega arith)))

prev_inside : (nodes p : ℕ) → 0 < p → p ≤ nodes → prev_at_first nodes p ≡ p - 1
prev_inside nodes p pos le =
    ap (λ a. cond a nodes (cond (nat_le p nodes) (p - 1) p)) (ne_eqb p 0 (λ e. absurd (omega arith))) ∙ ap (λ a. cond a (p - 1) p) (le-leb p nodes le)

prev_outside : (nodes p : ℕ) → nodes < p → prev_at_first nodes p ≡ p
prev_outside nodes p h =
    ap (λ a. cond a nodes (cond (nat_le p nodes) (p - 1) p)) (ne_eqb p 0 (λ e. absurd (omega arith))) ∙ ap (λ a. cond a (p - 1) p) (lt-leb p nodes h)

-- where a place is: a node, the place of Waiting, or that of another list
sides : (nodes p : ℕ) → (p < nodes) ⊎ ((p ≡ nodes) ⊎ (nodes < p))
sides nodes p = ⊎_elim inl (λ le. inr (⊎_elim inl (λ ne. inr (omega arith)) (cases_eq p nodes))) (cases_lt p nodes)

there : (nodes p : ℕ) → prev_at_first nodes (next_at_first nodes p) ≡ p
there nodes p = ⊎_elim inside (⊎_elim end outside) (sides nodes p)
  where
    inside : p < nodes → prev_at_first nodes (next_at_first nodes p) ≡ p
    inside h = ap (prev_at_first nodes) (next_inside nodes p h) ∙ prev_inside nodes (p + 1) (omega arith) (omega arith) ∙ omega arith

    end : p ≡ nodes → prev_at_first nodes (next_at_first nodes p) ≡ p
    end e = ap (λ k. prev_at_first nodes (next_at_first nodes k)) e ∙ ap (prev_at_first nodes) (next_at_end nodes) ∙ sym e

    outside : nodes < p → prev_at_first nodes (next_at_first nodes p) ≡ p
    outside h = ap (prev_at_first nodes) (next_outside nodes p h) ∙ prev_outside nodes p h

back : (nodes p : ℕ) → next_at_first nodes (prev_at_first nodes p) ≡ p
back nodes p = ⊎_elim start (λ ne. ⊎_elim (λ lt. inside ne (omega arith)) (⊎_elim (λ e. inside ne (omega arith)) outside) (sides nodes p)) (cases_eq p 0)
  where
    start : p ≡ 0 → next_at_first nodes (prev_at_first nodes p) ≡ p
    start e = ap (λ k. next_at_first nodes (prev_at_first nodes k)) e ∙ next_at_end nodes ∙ sym e

    inside : p ≢ 0 → p ≤ nodes → next_at_first nodes (prev_at_first nodes p) ≡ p
    inside ne le = ap (next_at_first nodes) (prev_inside nodes p (omega arith) le) ∙ next_inside nodes (p - 1) (omega arith) ∙ omega arith

    outside : nodes < p → next_at_first nodes (prev_at_first nodes p) ≡ p
    outside h = ap (next_at_first nodes) (prev_outside nodes p h) ∙ next_outside nodes p h

next_below : (nodes p : ℕ) → p < nodes + 6 → next_at_first nodes p < nodes + 6
next_below nodes p h = ⊎_elim
    (λ lt. subst (λ k. k < nodes + 6) (sym (next_inside nodes p lt)) (omega arith))
    (⊎_elim (λ e. subst (λ k. k < nodes + 6) (sym (ap (next_at_first nodes) e ∙ next_at_end nodes)) (omega arith))
    (λ gt. subst (λ k. k < nodes + 6) (sym (next_outside nodes p gt)) h))
    (sides nodes p)

prev_below : (nodes p : ℕ) → p < nodes + 6 → prev_at_first nodes p < nodes + 6
prev_below nodes p h = ⊎_elim (λ e. subst (λ k. prev_at_first nodes k < nodes + 6) (sym e) (omega arith))
    (λ ne. ⊎_elim (λ lt. inside ne (omega arith)) (⊎_elim (λ e. inside ne (omega arith))
    (λ gt. subst (λ k. k < nodes + 6) (sym (prev_outside nodes p gt)) h)) (sides nodes p)) (cases_eq p 0)
  where
    inside : p ≢ 0 → p ≤ nodes → prev_at_first nodes p < nodes + 6
    inside ne le = subst (λ k. k < nodes + 6) (sym (prev_inside nodes p (omega arith) le)) (omega arith)

-- how often a number is among some in a row
pub below_range : (n a m : ℕ) → n < a → times n (range_with_len a m) ≡ 0
below_range n a zero h = refl
below_range n a (suc m) h = times-other n a (range_with_len (a + 1) m) (λ e. absurd (omega arith)) ∙ below_range n (a + 1) m (omega arith)

pub past_range : (n a m : ℕ) → a + m ≤ n → times n (range_with_len a m) ≡ 0
past_range n a zero h = refl
past_range n a (suc m) h = times-other n a (range_with_len (a + 1) m) (λ e. absurd (omega arith)) ∙ past_range n (a + 1) m (omega arith)

pub in_range : (n a m : ℕ) → a ≤ n → n < a + m → times n (range_with_len a m) ≡ 1
in_range n a zero le lt = absurd (omega arith)
in_range n a (suc m) le lt = ⊎_elim here (on (in_range n (a + 1) m)) (cases_eq n a)
  where
    here : n ≡ a → times n (a ∷ range_with_len (a + 1) m) ≡ 1
    here e =
        subst (λ k. times k (a ∷ range_with_len (a + 1) m) ≡ 1) (sym e)
        (let head = times-head a (range_with_len (a + 1) m) in let none = below_range a (a + 1) m (omega arith) in omega arith)

    on : (a + 1 ≤ n → n < a + 1 + m → times n (range_with_len (a + 1) m) ≡ 1) → n ≢ a → times n (a ∷ range_with_len (a + 1) m) ≡ 1
    on rest ne = times-other n a (range_with_len (a + 1) m) ne ∙ rest (omega arith) (omega arith)

nowhere : (a : Bool) → 0 ≡ cond {A = ℕ} (a && false) 1 0
nowhere true = refl
nowhere false = refl

once_at_first : (nodes n : ℕ) (s : Stand) → times n (list_in (all_waiting nodes) s) ≡ cond {A = ℕ} (nat_lt n nodes && same_stand Waiting s) 1 0
once_at_first nodes n Waiting = ⊎_elim
    (λ lt. in_range n 0 nodes (omega arith) (omega arith) ∙ ap (λ a. cond {A = ℕ} (a && true) 1 0) (sym (lt-ltb n nodes lt)))
    (λ le. past_range n 0 nodes (omega arith) ∙ ap (λ a. cond {A = ℕ} (a && true) 1 0) (sym (le-ltb n nodes le))) (cases_lt n nodes)
once_at_first nodes n Ready = nowhere (nat_lt n nodes)
once_at_first nodes n Running = nowhere (nat_lt n nodes)
once_at_first nodes n Unflushed = nowhere (nat_lt n nodes)
once_at_first nodes n Flushing = nowhere (nat_lt n nodes)
once_at_first nodes n Settled = nowhere (nat_lt n nodes)

-- the functions agree with the first links at each place
module _ (nodes : ℕ) (f b : ℕ → ℕ) (stand : ℕ → Stand)
    (forth : (p : ℕ) → p < nodes + 6 → f p ≡ next_at_first nodes p) (back_ : (p : ℕ) → p < nodes + 6 → b p ≡ prev_at_first nodes p)
    (waits : (n : ℕ) → stand n ≡ Waiting) where
  ring_at_first : IsRing f b (nodes + 6)
  ring_at_first = record {
    next_in = λ p h. subst (λ k. k < nodes + 6) (sym (forth p h)) (next_below nodes p h);
    prev_in = λ p h. subst (λ k. k < nodes + 6) (sym (back_ p h)) (prev_below nodes p h);
    there_and_back = λ p h. ap b (forth p h) ∙ back_ (next_at_first nodes p) (next_below nodes p h) ∙ there nodes p;
    back_and_there = λ p h. ap f (back_ p h) ∙ forth (prev_at_first nodes p) (prev_below nodes p h) ∙ back nodes p;
  }

  path_on : (from a m : ℕ) → a + m ≡ nodes → f from ≡ a → Leads f from (range_with_len a m) nodes
  path_on from a zero e first = first ∙ omega arith
  path_on from a (suc m) e first = (first, path_on a (a + 1) m (omega arith) (forth a (omega arith) ∙ next_inside nodes a (omega arith)))

  alone : (s : Stand) → 0 < code s → f (nodes + code s) ≡ nodes + code s
  alone s pos = let h = code_below s in forth (nodes + code s) (omega arith) ∙ next_outside nodes (nodes + code s) (omega arith)

  leads_at_first : (s : Stand) → Leads f (nodes + code s) (list_in (all_waiting nodes) s) (nodes + code s)
  leads_at_first Waiting =
      let e : nodes + 0 ≡ nodes = omega arith in
      subst (λ k. Leads f k (range_with_len 0 nodes) k) (sym e) (path_on nodes 0 nodes (omega arith) (forth nodes (omega arith) ∙ next_at_end nodes))
  leads_at_first Ready = alone Ready (omega arith)
  leads_at_first Running = alone Running (omega arith)
  leads_at_first Unflushed = alone Unflushed (omega arith)
  leads_at_first Flushing = alone Flushing (omega arith)
  leads_at_first Settled = alone Settled (omega arith)

  linked_at_first : IsLinked f b stand nodes (all_waiting nodes)
  linked_at_first = record {
    ring = ring_at_first;
    leads = leads_at_first;
    once = λ s n. once_at_first nodes n s ∙ ap (λ t. cond {A = ℕ} (nat_lt n nodes && same_stand t s) 1 0) (sym (waits n));
  }

first_mark : Mark
first_mark = record { stand = Waiting; joins = 0 }

pub spelled_at_first : (nodes : ℕ) (next prev : List ℕ) (marks : List Mark)
    → next ≡ map (next_at_first nodes) (range_with_len 0 (nodes + 6)) → prev ≡ map (prev_at_first nodes) (range_with_len 0 (nodes + 6))
    → marks ≡ replicate nodes (record { stand = Waiting; joins = 0 }) → IsSpelled next prev marks nodes 0 (all_waiting nodes)
unfolding first_mark
spelled_at_first nodes next prev marks e d m = record {
  next_places = ap length e ∙ length-map-range_with_len (next_at_first nodes) 0 (nodes + 6);
  prev_places = ap length d ∙ length-map-range_with_len (prev_at_first nodes) 0 (nodes + 6);
  marked = ap length m ∙ length-replicate nodes first_mark;
  linked = linked_at_first nodes (slice_index next) (slice_index prev) (λ n. stand_now 0 (mark_at marks n))
      (λ p h. ap (λ l. get_or l p 0) e ∙ get_or-map-range_with_len (next_at_first nodes) 0 (nodes + 6) p p 0 h (omega arith))
      (λ p h. ap (λ l. get_or l p 0) d ∙ get_or-map-range_with_len (prev_at_first nodes) 0 (nodes + 6) p p 0 h (omega arith))
      (λ n. ap (stand_now 0) (each_first n));
  before = λ n h. subst (λ k. k.joins ≤ 0) (sym (each_first n)) (omega arith);
}
  where
    each_first : (n : ℕ) → mark_at marks n ≡ first_mark
    each_first n = ap (λ l. mark_at l n) m ∙ ⊎_elim
        (λ lt. get_or-replicate nodes n first_mark first_mark lt)
        (λ le. get_or_past (replicate nodes first_mark) n first_mark (let l = length-replicate nodes first_mark in omega arith)) (cases_lt n nodes)
