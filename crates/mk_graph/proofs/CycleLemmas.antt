-- Chains, rings, and what a plan says of cycles.
use Rattle.std.proofs.Common.{◌≡◌, ℕ, ◌+◌, ◌<◌, ◌≤◌, Bool, true, false, not, ◌&&◌, ◌||◌, nat_eq, nat_lt, nat_le, List, [], ◌∷◌, ◌++◌, length, get_or, set, take, drop, replicate, suc, zero, refl, sym, ap, ◌∙◌, subst, ⊎_elim, arith, eq-eqb, ne_eqb, eqb-true, ltb-true, lt-ltb, true≢false, append_assoc, append-nil, length-append, get_or-set_same, get_or-set_other, length-set}
use Rattle.std.proofs.lemmas.Bool.{cases_eq, cases_lt, and_parts, not-true, not-false}
use Rattle.std.proofs.lemmas.Cmp.{nat_eq_equiv}
use Rattle.std.proofs.lemmas.List.{get_or_past, length-replicate, get_or-replicate, take-append-drop, drop_more}
use Rattle.std.proofs.lemmas.List.Folds.{list_all-append}
use Rattle.std.proofs.lemmas.List.Sorted.{IsPermutation-append_comm}
use Rattle.std.proofs.lemmas.Map.Keys.{IsDistinct-push, IsDistinct-tail, IsDistinct-IsPermutation}
use Rattle.std.specs.List.{list_all, IsDistinct}
use Rattle.mk_graph.specs.Edges.{row, has, is_closed}
use Rattle.mk_graph.specs.Plan.{is_ready, IsPlanAfter, IsPlan}
use Rattle.mk_graph.specs.Cycle.{IsChain, IsCycle, HasCycle}
use Rattle.mk_graph.specs.Ring.{IsRing}
use Rattle.mk_graph.proofs.RowLemmas.{has-push, list_all-has}
use Rattle.mk_graph.proofs.PlanLemmas.{length_of_passed}

-- ---- chains

pub chain_split : (g : List (List ℕ)) (n : ℕ) (xs : List ℕ) (m : ℕ) (ys : List ℕ) → IsChain g n (xs ++ m ∷ ys) → IsChain g n (xs ++ m ∷ []) × IsChain g m ys
chain_split g n [] m ys h = ((h.0, tt), h.1)
chain_split g n (x ∷ xs) m ys h = let rest = chain_split g x xs m ys h.1 in ((h.0, rest.0), rest.1)

pub chain_join : (g : List (List ℕ)) (n : ℕ) (xs : List ℕ) (m : ℕ) (ys : List ℕ) → IsChain g n (xs ++ m ∷ []) → IsChain g m ys → IsChain g n (xs ++ m ∷ ys)
chain_join g n [] m ys h k = (h.0, k)
chain_join g n (x ∷ xs) m ys h k = (h.0, chain_join g x xs m ys h.1 k)

-- a ring may begin at each of its nodes
pub ring_turned : (g : List (List ℕ)) (front : List ℕ) (m : ℕ) (behind : List ℕ) → IsRing g (front ++ m ∷ behind) → IsChain g m ((behind ++ front) ++ m ∷ [])
ring_turned g [] m behind ring = subst (λ l. IsChain g m (l ++ m ∷ [])) (sym (append-nil behind)) ring
ring_turned g (x ∷ front) m behind ring =
    let parts = chain_split g x front m (behind ++ x ∷ []) (subst (IsChain g x) (append_assoc front (m ∷ behind) (x ∷ [])) ring) in
    subst (IsChain g m) (sym (append_assoc behind (x ∷ front) (m ∷ []))) (chain_join g m behind x (front ++ m ∷ []) parts.1 parts.0)

flips : (x y : ℕ) → nat_eq x y ≡ nat_eq y x
flips x y = ⊎_elim (λ e. eq-eqb x y e ∙ sym (eq-eqb y x (sym e))) (λ ne. ne_eqb x y ne ∙ sym (ne_eqb y x (λ e. ne (sym e)))) (cases_eq x y)

pub once_turned : (front : List ℕ) (m : ℕ) (behind : List ℕ) → IsDistinct nat_eq (front ++ m ∷ behind) → IsDistinct nat_eq (m ∷ (behind ++ front))
once_turned front m behind once = IsDistinct-IsPermutation nat_eq flips (front ++ m ∷ behind) ((m ∷ behind) ++ front) (IsPermutation-append_comm front (m ∷ behind)) once

pub least_turned : (least : ℕ) (front : List ℕ) (m : ℕ) (behind : List ℕ) → list_all (nat_le least) (front ++ m ∷ behind) ≡ true → list_all (nat_le least) (behind ++ front) ≡ true
least_turned least front m behind h =
    let p = and_parts (list_all (nat_le least) front) (list_all (nat_le least) (m ∷ behind)) (sym (list_all-append (nat_le least) front (m ∷ behind)) ∙ h) in
    let q = and_parts (nat_le least m) (list_all (nat_le least) behind) p.1 in
    list_all-append (nat_le least) behind front ∙ rw (q.1, p.0) refl

pub cycle_from_ring : (g : List (List ℕ)) (ring front : List ℕ) (m : ℕ) (behind cycle : List ℕ) → ring ≡ front ++ m ∷ behind → IsRing g ring → IsDistinct nat_eq ring
    → list_all (nat_le m) ring ≡ true → cycle ≡ m ∷ ((behind ++ front) ++ m ∷ []) → IsCycle g cycle
cycle_from_ring g ring front m behind cycle parts is_ring once least whole = record {
  first = m;
  between = behind ++ front;
  whole = whole;
  chain = ring_turned g front m behind (subst (IsRing g) parts is_ring);
  once = once_turned front m behind (subst (IsDistinct nat_eq) parts once);
  least = least_turned m front m behind (subst (λ l. list_all (nat_le m) l ≡ true) parts least);
}

-- the part of a list behind a place
pub once_behind : (front behind : List ℕ) → IsDistinct nat_eq (front ++ behind) → IsDistinct nat_eq behind
once_behind [] behind once = once
once_behind (x ∷ front) behind once = once_behind front behind (IsDistinct-tail nat_eq x (front ++ behind) once)

pub parts_at : (xs : List ℕ) (i : ℕ) → i < length xs → xs ≡ take i xs ++ get_or xs i 0 ∷ drop (i + 1) xs
parts_at xs i h = sym (take-append-drop i xs) ∙ ap (λ l. take i xs ++ l) (drop_more xs i 0 h)

-- ---- what a plan says

-- at the end no node can be passed next
pub end_of_plan : (g : List (List ℕ)) (p order : List ℕ) → IsPlanAfter g p order → (n : ℕ) → is_ready g (p ++ order) n ≡ false
end_of_plan g p [] plan n = subst (λ l. is_ready g l n ≡ false) (sym (append-nil p)) (plan n)
end_of_plan g p (m ∷ order) plan n = subst (λ l. is_ready g l n ≡ false) (append_assoc p (m ∷ []) order) (end_of_plan g (p ++ m ∷ []) order plan.1 n)

-- nodes each of which has one of them as a prerequisite are never passed
pub never_passed : (g : List (List ℕ)) (knot : ℕ → Bool) → ((n : ℕ) → knot n ≡ true → (m : ℕ) × (has (row g n) m ≡ true) × (knot m ≡ true))
    → (p order : List ℕ) → IsPlanAfter g p order → ((n : ℕ) → knot n ≡ true → has p n ≡ false) → (n : ℕ) → knot n ≡ true → has (p ++ order) n ≡ false
never_passed g knot onward p [] plan before n h = subst (λ l. has l n ≡ false) (sym (append-nil p)) (before n h)
never_passed g knot onward p (k ∷ order) plan before n h =
    subst (λ l. has l n ≡ false) (append_assoc p (k ∷ []) order)
    (never_passed g knot onward (p ++ k ∷ []) order plan.1 (λ m in_knot. has-push p k m ∙ rw (before m in_knot) (ne_eqb m k (λ e. apart m in_knot e))) n h)
  where
    apart : (m : ℕ) → knot m ≡ true → m ≡ k → ⊥
    apart m in_knot e =
        let on = onward k (subst (λ x. knot x ≡ true) e in_knot) in
        let ready = (and_parts (nat_lt k (length g)) (not (has p k) && list_all (has p) (row g k)) plan.0.ready).1 in
        let all = (and_parts (not (has p k)) (list_all (has p) (row g k)) ready).1 in
        true≢false (sym (list_all-has (has p) (row g k) on.0 all on.1) ∙ before on.0 on.2)

-- each node of a chain has the next one as a prerequisite
pub next_in_chain : (g : List (List ℕ)) (n : ℕ) (xs : List ℕ) (z : ℕ) → IsChain g n (xs ++ z ∷ []) → (w : ℕ) → has (n ∷ xs) w ≡ true
    → (m : ℕ) × (has (row g w) m ≡ true) × (has (xs ++ z ∷ []) m ≡ true)
next_in_chain g n [] z h w there = by (nat_eq w n) refl
  where
    by : (b : Bool) → nat_eq w n ≡ b → (m : ℕ) × (has (row g w) m ≡ true) × (has (z ∷ []) m ≡ true)
    by true e = (z, subst (λ k. has (row g k) z ≡ true) (sym (eqb-true w n e)) h.0, rw (eq-eqb z z refl) refl)
    by false e = absurd (true≢false (sym there ∙ ap (λ b. b || false) e))
next_in_chain g n (x ∷ xs) z h w there = by (next_in_chain g x xs z h.1 w) (nat_eq w n) refl
  where
    by : (has (x ∷ xs) w ≡ true → (m : ℕ) × (has (row g w) m ≡ true) × (has (xs ++ z ∷ []) m ≡ true)) → (b : Bool) → nat_eq w n ≡ b
        → (m : ℕ) × (has (row g w) m ≡ true) × (has (x ∷ (xs ++ z ∷ [])) m ≡ true)
    by rest true e = (x, subst (λ k. has (row g k) x ≡ true) (sym (eqb-true w n e)) h.0, rw (eq-eqb x x refl) refl)
    by rest false e =
        let r = rest (sym (ap (λ b. b || has (x ∷ xs) w) e) ∙ there) in
        (r.0, r.1, ap (λ b. nat_eq r.0 x || b) r.2 ∙ or_true (nat_eq r.0 x))
      where
        or_true : (b : Bool) → (b || true) ≡ true
        or_true true = refl
        or_true false = refl

-- where all nodes are passed there is no cycle
pub no_cycle : (g : List (List ℕ)) (order : List ℕ) → IsPlan g order → ((q : ℕ) → q < length g → has order q ≡ true) → HasCycle g → ⊥
no_cycle g order plan all found =
    let c = found.1 in
    let onward = next_in_chain g c.first c.between c.first c.chain in
    let knot = has (c.first ∷ c.between) in
    let first_in : knot c.first ≡ true = rw (eq-eqb c.first c.first refl) refl in
    let start = onward c.first first_in in
    let place : c.first < length g = ⊎_elim (λ lt. lt) (λ le. absurd (true≢false (sym (subst (λ l. has l start.0 ≡ true) (get_or_past g c.first [] le) start.1)))) (cases_lt c.first (length g)) in
    true≢false (sym (all c.first place)
    ∙ never_passed g knot (λ n h. let on = onward n h in (on.0, on.1, sym (turned c.first c.between on.0) ∙ on.2)) [] order plan (λ n h. refl) c.first first_in)
  where
    turned : (x : ℕ) (xs : List ℕ) (n : ℕ) → has (xs ++ x ∷ []) n ≡ has (x ∷ xs) n
    turned x xs n = has-push xs x n ∙ swap (has xs n) (nat_eq n x)
      where
        swap : (a b : Bool) → (a || b) ≡ (b || a)
        swap true true = refl
        swap true false = refl
        swap false true = refl
        swap false false = refl

-- ---- the walk

-- the path leads to a node
abbrev pub LeadsTo : (g : List (List ℕ)) (path : List ℕ) (at : ℕ) → Type 0
LeadsTo g [] at = Unit {0}
LeadsTo g (n ∷ more) at = IsChain g n (more ++ at ∷ [])

pub leads_on : (g : List (List ℕ)) (path : List ℕ) (at next : ℕ) → LeadsTo g path at → has (row g at) next ≡ true → LeadsTo g (path ++ at ∷ []) next
leads_on g [] at next leads h = (h, tt)
leads_on g (n ∷ more) at next leads h = subst (IsChain g n) (sym (append_assoc more (at ∷ []) (next ∷ []))) (chain_join g n more at (next ∷ []) leads (h, tt))

-- a path that leads to a node on it holds a ring
pub ring_of_path : (g : List (List ℕ)) (front : List ℕ) (at : ℕ) (behind : List ℕ) → LeadsTo g (front ++ at ∷ behind) at → IsRing g (at ∷ behind)
ring_of_path g [] at behind leads = leads
ring_of_path g (n ∷ front) at behind leads = (chain_split g n front at (behind ++ at ∷ []) (subst (IsChain g n) (append_assoc front (at ∷ behind) (at ∷ [])) leads)).1

-- what is kept on the way: the path's nodes are those that aren't fresh, and lead to the node that comes next
pub record Walks (g : List (List ℕ)) (marks : List Bool) (path : List ℕ) (fresh : List Bool) (at : ℕ) : Type 0 where
  pub len : length fresh ≡ length g
  pub place : at < length g
  pub unmarked : get_or marks at false ≡ false
  pub seen : (q : ℕ) → q < length g → get_or fresh q false ≡ not (has path q)
  pub once : IsDistinct nat_eq path
  pub nodes : list_all (λ q. nat_lt q (length g)) path ≡ true
  pub leads : LeadsTo g path at

nothing_twice : IsDistinct nat_eq []
unfolding IsDistinct
nothing_twice = tt

pub Walks-start : (g : List (List ℕ)) (marks fresh : List Bool) (start : ℕ) → fresh ≡ replicate (length g) true → start < length g → get_or marks start false ≡ false → Walks g marks [] fresh start
Walks-start g marks fresh start is place unmarked = record {
  len = ap length is ∙ length-replicate (length g) true;
  place = place;
  unmarked = unmarked;
  seen = λ q lt. ap (λ l. get_or l q false) is ∙ get_or-replicate (length g) q true false lt;
  once = nothing_twice;
  nodes = refl;
  leads = tt;
}

module _ (g : List (List ℕ)) (marks : List Bool) (path : List ℕ) (fresh : List Bool) (at : ℕ) (before : Walks g marks path fresh at) (is_fresh : get_or fresh at false ≡ true) where
  new_on_path : has path at ≡ false
  new_on_path = not-true (has path at) (sym (before.seen at before.place) ∙ is_fresh)

  once_longer : IsDistinct nat_eq (path ++ at ∷ [])
  once_longer = IsDistinct-push nat_eq_equiv path at before.once new_on_path

  nodes_longer : list_all (λ q. nat_lt q (length g)) (path ++ at ∷ []) ≡ true
  nodes_longer = list_all-append (λ q. nat_lt q (length g)) path (at ∷ []) ∙ rw (before.nodes, lt-ltb at (length g) before.place) refl

  pub room_on_path : length path + 1 ≤ length g
  room_on_path =
      let bound = length_of_passed g (path ++ at ∷ []) once_longer nodes_longer in
      let more = length-append path (at ∷ []) in omega arith

  pub Walks-more : (next : ℕ) → has (row g at) next ≡ true → next < length g → get_or marks next false ≡ false → Walks g marks (path ++ at ∷ []) (set fresh at false) next
  Walks-more next onward place unmarked = record {
    len = length-set fresh at false ∙ before.len;
    place = place;
    unmarked = unmarked;
    seen = λ q lt. ⊎_elim
        (λ e. ap (λ k. get_or (set fresh at false) k false) e ∙ get_or-set_same fresh at false false (subst (λ k. at < k) (sym before.len) before.place)
        ∙ sym (ap not (has-push path at q ∙ ap (λ b. has path q || b) (eq-eqb q at e) ∙ or_true (has path q))))
        (λ ne. get_or-set_other fresh at q false false ne ∙ before.seen q lt
        ∙ ap not (sym (has-push path at q ∙ ap (λ b. has path q || b) (ne_eqb q at ne) ∙ or_false (has path q))))
        (cases_eq q at);
    once = once_longer;
    nodes = nodes_longer;
    leads = leads_on g path at next before.leads onward;
  }
    where
      or_true : (b : Bool) → (b || true) ≡ true
      or_true true = refl
      or_true false = refl

      or_false : (b : Bool) → (b || false) ≡ b
      or_false true = refl
      or_false false = refl

-- a node that isn't fresh is on the path
pub on_path : (g : List (List ℕ)) (marks : List Bool) (path : List ℕ) (fresh : List Bool) (at : ℕ) → Walks g marks path fresh at → get_or fresh at false ≡ false → has path at ≡ true
on_path g marks path fresh at walk h = not-false (has path at) (sym (walk.seen at walk.place) ∙ h)

-- each row of a closed graph names nodes
pub closed_row : (g : List (List ℕ)) → is_closed g ≡ true → (n : ℕ) → n < length g → list_all (λ m. nat_lt m (length g)) (row g n) ≡ true
closed_row g closed n h = list_all_at_place (λ ns. list_all (λ m. nat_lt m (length g)) ns) g n h closed
  where
    list_all_at_place : (p : List ℕ → Bool) (xs : List (List ℕ)) (i : ℕ) → i < length xs → list_all p xs ≡ true → p (get_or xs i []) ≡ true
    list_all_at_place p [] i h all = absurd (omega arith)
    list_all_at_place p (x ∷ xs) zero h all = (and_parts (p x) (list_all p xs) all).0
    list_all_at_place p (x ∷ xs) (suc i) h all = list_all_at_place p xs i (omega arith) (and_parts (p x) (list_all p xs) all).1

-- tests that agree on a list's numbers have one answer on it
pub list_all_agree : (p q : ℕ → Bool) (xs : List ℕ) → ((n : ℕ) → has xs n ≡ true → p n ≡ q n) → list_all p xs ≡ list_all q xs
list_all_agree p q [] agree = refl
list_all_agree p q (x ∷ xs) agree =
    let first = agree x (ap (λ b. b || has xs x) (eq-eqb x x refl)) in
    let rest = list_all_agree p q xs (λ n h. agree n (ap (λ b. nat_eq n x || b) h ∙ or_true (nat_eq n x))) in
    (λ i. first i && rest i)
  where
    or_true : (b : Bool) → (b || true) ≡ true
    or_true true = refl
    or_true false = refl

-- a node that wasn't passed has a prerequisite that wasn't
pub onward : (g : List (List ℕ)) (order : List ℕ) (marks : List Bool) → is_closed g ≡ true → IsPlan g order → ((q : ℕ) → q < length g → get_or marks q false ≡ has order q)
    → (q : ℕ) → q < length g → get_or marks q false ≡ false → list_all (λ n. get_or marks n false) (row g q) ≡ false
onward g order marks closed plan marked q lt unmarked =
    list_all_agree (λ n. get_or marks n false) (has order) (row g q)
    (λ n h. marked n (ltb-true n (length g) (list_all-has (λ m. nat_lt m (length g)) (row g q) n (closed_row g closed q lt) h)))
    ∙ unready (has order q) (list_all (has order) (row g q)) (sym (marked q lt) ∙ unmarked)
    (sym (ap (λ b. b && (not (has order q) && list_all (has order) (row g q))) (lt-ltb q (length g) lt)) ∙ end_of_plan g [] order plan q)
  where
    unready : (had all : Bool) → had ≡ false → (not had && all) ≡ false → all ≡ false
    unready false all e h = h
    unready true all e h = absurd (true≢false e)
