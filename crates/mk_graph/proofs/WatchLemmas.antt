-- Nodes that wait for prerequisites, while a plan is made.
use Rattle.std.proofs.Common.{◌≡◌, ◌≢◌, ℕ, zero, suc, ◌<◌, ◌≤◌, Bool, true, false, not, ◌&&◌, ◌||◌, nat_eq, nat_lt, List, [], ◌∷◌, length, set, slice_index, refl, sym, ap, ◌∙◌, subst, ⊎_elim, arith, eq-eqb, ne_eqb, ltb-true, lt-ltb, true≢false, get_or-set_same, get_or-set_other, length-set}
use Rattle.std.proofs.lemmas.Bool.{cases_eq, and_parts, not-true, false_from_ne_true}
use Rattle.std.specs.List.{list_all}
use Rattle.mk_graph.specs.Edges.{row, has}
use Rattle.mk_graph.specs.Watching.{is_passed, can_pass, IsSeen, Waits, IsListed, AreWatched, AreReleased}

-- what holds of each number of a list holds at each place
pub all_at : (f : ℕ → Bool) (ns : List ℕ) (k : ℕ) → list_all f ns ≡ true → k < length ns → f (slice_index ns k) ≡ true
all_at f [] k all lt = absurd (omega arith)
all_at f (x ∷ ns) zero all lt = (and_parts (f x) (list_all f ns) all).0
all_at f (x ∷ ns) (suc k) all lt = all_at f ns k (and_parts (f x) (list_all f ns) all).1 (omega arith)

pub all_from : (f : ℕ → Bool) (ns : List ℕ) → ((k : ℕ) → k < length ns → f (slice_index ns k) ≡ true) → list_all f ns ≡ true
all_from f [] at = refl
all_from f (x ∷ ns) at =
    let first : f x ≡ true = at 0 (omega arith) in
    let rest = all_from f ns (λ k lt. at (suc k) (omega arith)) in
    rw (first, rest) refl

-- what can be passed
module _ (g : List (List ℕ)) (marks : List Bool) (n : ℕ) where
  pub can_within : can_pass g marks n ≡ true → n < length g
  can_within can = ltb-true n (length g) (and_parts (nat_lt n (length g)) (not (is_passed marks n) && list_all (is_passed marks) (row g n)) can).0

  fresh_and_all : can_pass g marks n ≡ true → (not (is_passed marks n) && list_all (is_passed marks) (row g n)) ≡ true
  fresh_and_all can = (and_parts (nat_lt n (length g)) (not (is_passed marks n) && list_all (is_passed marks) (row g n)) can).1

  pub can_fresh : can_pass g marks n ≡ true → is_passed marks n ≡ false
  can_fresh can = not-true (is_passed marks n) (and_parts (not (is_passed marks n)) (list_all (is_passed marks) (row g n)) (fresh_and_all can)).0

  pub can_all : can_pass g marks n ≡ true → list_all (is_passed marks) (row g n) ≡ true
  can_all can = (and_parts (not (is_passed marks n)) (list_all (is_passed marks) (row g n)) (fresh_and_all can)).1

  pub can_from : n < length g → is_passed marks n ≡ false → list_all (is_passed marks) (row g n) ≡ true → can_pass g marks n ≡ true
  can_from lt fresh all = rw (lt-ltb n (length g) lt, fresh, all) refl

  pub can_not_past : length g ≤ n → can_pass g marks n ≡ false
  can_not_past le = false_from_ne_true (can_pass g marks n) (λ can. let lt = can_within can in absurd (omega arith))

-- a number of a row that stands where it was seen to was passed if the whole row was
passed_at : (marks : List Bool) (ns : List ℕ) (place p : ℕ) → IsSeen marks ns place p → list_all (is_passed marks) ns ≡ true → is_passed marks p ≡ true
passed_at marks ns place p seen all = subst (λ k. is_passed marks k ≡ true) seen.number (all_at (is_passed marks) ns place all seen.within)

module _ (g : List (List ℕ)) (marks : List Bool) (ready : ℕ → Bool) (from : ℕ) (places : List ℕ) (lists : List (List ℕ)) (watched : AreWatched g marks ready from places lists) where
  passed_within : (p : ℕ) → is_passed marks p ≡ true → p < length g
  passed_within p was = let a = watched.passed p was in let b = watched.some in omega arith

  -- none but the ready nodes can be passed among those that were looked at
  pub none_else : AreReleased marks lists → (n : ℕ) → n < from → ready n ≡ false → can_pass g marks n ≡ false
  none_else released n lt idle = false_from_ne_true (can_pass g marks n) (λ can. stuck (can_all g marks n can) (watched.wait n lt (can_fresh g marks n can) idle))
    where
      stuck : list_all (is_passed marks) (row g n) ≡ true → Waits marks (row g n) places lists n → ⊥
      stuck all waits =
          let was = passed_at marks (row g n) (slice_index places n) waits.p waits.seen all in
          let known : waits.p < length lists = let a = passed_within waits.p was in let b = watched.linked in omega arith in
          true≢false (sym (waits.listed known) ∙ ap (λ l. has l n) (released waits.p was))

  -- a node that can be passed stands in no list
  pub unlisted : AreReleased marks lists → (n p : ℕ) → can_pass g marks n ≡ true → has (row lists p) n ≡ false
  unlisted released n p can = false_from_ne_true (has (row lists p) n) (λ h.
      let was = passed_at marks (row g n) (slice_index places n) p (watched.are_listed p n h).seen (can_all g marks n can) in
      true≢false (sym h ∙ ap (λ l. has l n) (released p was)))

  -- one node u was looked at anew
  module _ (u : ℕ) (ready' : ℕ → Bool) (from' : ℕ) (places' : List ℕ) (lists' : List (List ℕ))
      (placed : length places' ≡ length places) (linked : length lists' ≡ length lists)
      (some : from' ≤ length g) (rises : from ≤ from') (next : (n : ℕ) → n < from' → n ≢ u → n < from) (here : u < from') (fresh : is_passed marks u ≡ false)
      (places_still : (n : ℕ) → n ≢ u → slice_index places' n ≡ slice_index places n)
      (lists_still : (p n : ℕ) → n ≢ u → has (row lists' p) n ≡ has (row lists p) n)
      (ready_still : (n : ℕ) → n ≢ u → ready' n ≡ ready n)
      (own : (p : ℕ) → has (row lists' p) u ≡ true → IsSeen marks (row g u) (slice_index places' u) p)
      (can : ready' u ≡ true → can_pass g marks u ≡ true)
      (waits : ready' u ≡ false → Waits marks (row g u) places' lists' u) where
    waits_still : (n : ℕ) → n ≢ u → Waits marks (row g n) places lists n → Waits marks (row g n) places' lists' n
    waits_still n off w = record {
      p = w.p;
      seen = subst (λ k. IsSeen marks (row g n) k w.p) (sym (places_still n off)) w.seen;
      listed = λ known. lists_still w.p n off ∙ w.listed (let e = linked in omega arith);
    }

    listed_still : (p n : ℕ) → n ≢ u → IsListed g marks from places p n → IsListed g marks from' places' p n
    listed_still p n off l = record {
      looked_at = let lt = l.looked_at in omega arith;
      fresh = l.fresh;
      seen = subst (λ k. IsSeen marks (row g n) k p) (sym (places_still n off)) l.seen;
    }

    pub watched_on : AreWatched g marks ready' from' places' lists'
    watched_on = record {
      marked = watched.marked;
      placed = placed ∙ watched.placed;
      linked = linked ∙ watched.linked;
      some = some;
      passed = λ n was. let lt = watched.passed n was in omega arith;
      found = λ n is. ⊎_elim (λ e. subst (λ k. k < from') (sym e) here) (λ off. let lt = watched.found n (sym (ready_still n off) ∙ is) in omega arith) (cases_eq n u);
      can = λ n is. ⊎_elim (λ e. subst (λ k. can_pass g marks k ≡ true) (sym e) (can (ap ready' (sym e) ∙ is))) (λ off. watched.can n (sym (ready_still n off) ∙ is)) (cases_eq n u);
      wait = λ n lt new idle. ⊎_elim
          (λ e. subst (λ k. Waits marks (row g k) places' lists' k) (sym e) (waits (ap ready' (sym e) ∙ idle)))
          (λ off. waits_still n off (watched.wait n (next n lt off) new (sym (ready_still n off) ∙ idle)))
          (cases_eq n u);
      are_listed = λ p n h. ⊎_elim
          (λ e. subst (IsListed g marks from' places' p) (sym e) (record { looked_at = here; fresh = fresh; seen = own p (ap (has (row lists' p)) (sym e) ∙ h) }))
          (λ off. listed_still p n off (watched.are_listed p n (sym (lists_still p n off) ∙ h)))
          (cases_eq n u);
    }

-- at first none was looked at
pub watched_start : (g : List (List ℕ)) (marks : List Bool) (ready : ℕ → Bool) (from : ℕ) (places : List ℕ) (lists : List (List ℕ))
    → length marks ≡ length g → length places ≡ length g → length lists ≡ length g → from ≡ 0
    → ((n : ℕ) → is_passed marks n ≡ false) → ((n : ℕ) → ready n ≡ false) → ((p : ℕ) → row lists p ≡ []) → AreWatched g marks ready from places lists
watched_start g marks ready from places lists marked placed linked start none idle empty = record {
  marked = marked;
  placed = placed;
  linked = linked;
  some = omega arith;
  passed = λ n was. absurd (true≢false (sym was ∙ none n));
  found = λ n is. absurd (true≢false (sym is ∙ idle n));
  can = λ n is. absurd (true≢false (sym is ∙ idle n));
  wait = λ n lt. absurd (omega arith);
  are_listed = λ p n h. absurd (true≢false (sym h ∙ ap (λ l. has l n) (empty p)));
}

-- a node with this row was looked at: it can be passed, or it waits
module _ (g : List (List ℕ)) (marks : List Bool) (ready : ℕ → Bool) (from : ℕ) (places : List ℕ) (lists : List (List ℕ)) (watched : AreWatched g marks ready from places lists)
    (u : ℕ) (ns : List ℕ) (is_row : row g u ≡ ns) (from' : ℕ) (places' : List ℕ) (lists' : List (List ℕ))
    (placed : length places' ≡ length places) (linked : length lists' ≡ length lists)
    (some : from' ≤ length g) (rises : from ≤ from') (next : (n : ℕ) → n < from' → n ≢ u → n < from) (here : u < from') (fresh : is_passed marks u ≡ false)
    (places_still : (n : ℕ) → n ≢ u → slice_index places' n ≡ slice_index places n)
    (lists_still : (p n : ℕ) → n ≢ u → has (row lists' p) n ≡ has (row lists p) n)
    (own : (p : ℕ) → has (row lists' p) u ≡ true → IsSeen marks ns (slice_index places' u) p) where
  own_row : (p : ℕ) → has (row lists' p) u ≡ true → IsSeen marks (row g u) (slice_index places' u) p
  own_row p h = subst (λ l. IsSeen marks l (slice_index places' u) p) (sym is_row) (own p h)

  pub can_here : list_all (is_passed marks) ns ≡ true → can_pass g marks u ≡ true
  can_here all = can_from g marks u (omega arith) fresh (ap (list_all (is_passed marks)) is_row ∙ all)

  pub watched_open : (ready' : ℕ → Bool) → ((n : ℕ) → n ≢ u → ready' n ≡ ready n) → ready' u ≡ true → list_all (is_passed marks) ns ≡ true
      → AreWatched g marks ready' from' places' lists'
  watched_open ready' still is all =
      watched_on g marks ready from places lists watched u ready' from' places' lists' placed linked some rises next here fresh places_still lists_still still own_row
      (λ yes. can_here all) (λ no. absurd (true≢false (sym is ∙ no)))

  pub watched_stuck : Waits marks ns places' lists' u → AreWatched g marks ready from' places' lists'
  watched_stuck waits =
      watched_on g marks ready from places lists watched u ready from' places' lists' placed linked some rises next here fresh places_still lists_still (λ n off. refl) own_row
      (watched.can u) (λ no. subst (λ l. Waits marks l places' lists' u) (sym is_row) waits)

-- a node is marked as passed
module _ (g : List (List ℕ)) (marks : List Bool) (ready : ℕ → Bool) (from : ℕ) (places : List ℕ) (lists : List (List ℕ)) (n : ℕ)
    (watched : AreWatched g marks (λ m. ready m || nat_eq m n) from places lists) (released : AreReleased marks lists)
    (can : can_pass g marks n ≡ true) (idle : ready n ≡ false) where
  within : n < length marks
  within = let a = can_within g marks n can in let b = watched.marked in omega arith

  marked_else : (m : ℕ) → m ≢ n → is_passed (set marks n true) m ≡ is_passed marks m
  marked_else m off = get_or-set_other marks n m true false off

  marked_here : is_passed (set marks n true) n ≡ true
  marked_here = get_or-set_same marks n true false within

  still_passed : (m : ℕ) → is_passed marks m ≡ true → is_passed (set marks n true) m ≡ true
  still_passed m was = ⊎_elim (λ e. ap (is_passed (set marks n true)) e ∙ marked_here) (λ off. marked_else m off ∙ was) (cases_eq m n)

  seen_still : (ns : List ℕ) (place p : ℕ) → IsSeen marks ns place p → IsSeen (set marks n true) ns place p
  seen_still ns place p seen = record {
    within = seen.within;
    number = seen.number;
    behind = λ k lt within. still_passed (slice_index ns k) (seen.behind k lt within);
  }

  fresh_off : (m : ℕ) → is_passed (set marks n true) m ≡ false → m ≢ n
  fresh_off m fresh e = true≢false (sym marked_here ∙ ap (is_passed (set marks n true)) (sym e) ∙ fresh)

  ready_off : (m : ℕ) → ready m ≡ true → m ≢ n
  ready_off m is e = true≢false (sym is ∙ ap ready e ∙ idle)

  can_still : (m : ℕ) → m ≢ n → can_pass g marks m ≡ true → can_pass g (set marks n true) m ≡ true
  can_still m off is =
      can_from g (set marks n true) m (can_within g marks m is) (marked_else m off ∙ can_fresh g marks m is)
      (all_from (is_passed (set marks n true)) (row g m) (λ k lt. still_passed (slice_index (row g m) k) (all_at (is_passed marks) (row g m) k (can_all g marks m is) lt)))

  pub watched_marked : AreWatched g (set marks n true) ready from places lists
  watched_marked = record {
    marked = length-set marks n true ∙ watched.marked;
    placed = watched.placed;
    linked = watched.linked;
    some = watched.some;
    passed = λ m was. ⊎_elim
        (λ e. watched.found m (rw (eq-eqb m n e) (or_true (ready m))))
        (λ off. watched.passed m (sym (marked_else m off) ∙ was))
        (cases_eq m n);
    found = λ m is. watched.found m (ap (λ b. b || nat_eq m n) is);
    can = λ m is. can_still m (ready_off m is) (watched.can m (ap (λ b. b || nat_eq m n) is));
    wait = λ m lt fresh not_ready.
        let off = fresh_off m fresh in
        let w = watched.wait m lt (sym (marked_else m off) ∙ fresh) (rw (not_ready, ne_eqb m n off) refl) in
        record { p = w.p; seen = seen_still (row g m) (slice_index places m) w.p w.seen; listed = w.listed };
    are_listed = λ p m h.
        let off : m ≢ n = λ e. true≢false (sym h ∙ ap (has (row lists p)) e ∙ unlisted g marks (λ k. ready k || nat_eq k n) from places lists watched released n p can) in
        let l = watched.are_listed p m h in
        record { looked_at = l.looked_at; fresh = marked_else m off ∙ l.fresh; seen = seen_still (row g m) (slice_index places m) p l.seen };
  }
    where
      or_true : (b : Bool) → (b || true) ≡ true
      or_true true = refl
      or_true false = refl
