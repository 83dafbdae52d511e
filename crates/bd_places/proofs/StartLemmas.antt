-- The board at first: nothing has settled, and the nodes that wait for nothing are in Ready.
use Rattle.std.proofs.Common.{◌≡◌, ℕ, zero, suc, ◌+◌, ◌-◌, ◌<◌, ◌≤◌, Bool, true, false, cond, not, ◌&&◌, nat_eq, nat_lt, List, [], ◌∷◌, ◌++◌, length, filter, map, replicate, get_or, slice_index, slice_index_or, Option, None, is_some, refl, sym, ap, ◌∙◌, subst, ⊎_elim, arith, true≢false, lt-ltb, ne_eqb, append-nil, append_assoc}
use Rattle.std.proofs.lemmas.Bool.{cases_lt, le-ltb, and_parts}
use Rattle.std.proofs.lemmas.List.{length-replicate, get_or-replicate, get_or_past}
use Rattle.std.proofs.lemmas.List.Elements.{filter-append}
use Rattle.std.proofs.lemmas.List.FromFn.{length-map-range_with_len, get_or-map-range_with_len}
use Rattle.std.specs.List.{list_any, list_all, range_with_len}
use Rattle.mk_graph.specs.Edges.{row, has, times, AreUsers}
use Rattle.bd_places.specs.declared.end.End.{End}
use Rattle.bd_links.specs.declared.stand.Stand.{Stand}
use Rattle.bd_links.specs.declared.stand.Stand.TheVariants.{Waiting, Ready, Running, Unflushed, Flushing, Settled}
use Rattle.bd_places.specs.declared.tally.Tally.{Tally}
use Rattle.bd_places.specs.Placed.{holds_any, is_ready_first, first_standing, first_placed}
use Rattle.bd_places.specs.Places.{placed_of, ArePlaces}
use Rattle.bd_places.specs.declared.places.Places.TheInside.{Inside}
use Rattle.bd_links.specs.Linked.{Linked}
use Rattle.bd_places.specs.Settling.{Prerequisites, standing, is_lost, is_free, is_under_way, IsStanding}
use Rattle.bd_links.specs.SixLists.{SixLists, list_in, without, moved, all_waiting, split_by}
use Rattle.bd_places.specs.Tally.{prerequisites_of, lacking, IsTallied}
use Rattle.bd_links.proofs.FirstLemmas.{in_range, past_range, below_range}
use Rattle.bd_links.proofs.ListLemmas.{times-cons, without-none, without-append, without-head}
use Rattle.bd_places.proofs.SettleLemmas.{times-filter}
use Rattle.bd_places.proofs.UserLemmas.{has-filter}
use Rattle.bd_places.proofs.TallyLemmas.{lacking-cons}

-- ---- what nodes lack

lacking_all : (xs : List ℕ) → lacking [] xs ≡ length xs
lacking_all [] = refl
lacking_all (x ∷ xs) = let rest = lacking_all xs in lacking-cons [] x xs ∙ omega arith

none_lost : (ends : List (Option End)) (xs : List ℕ) → list_any (λ n. has [] n && is_lost (slice_index_or ends n None)) xs ≡ false
none_lost ends [] = refl
none_lost ends (x ∷ xs) = none_lost ends xs

pub tallied_first : (t : Tally) → length t.hard ≡ length t.counted → ((u n : ℕ) → times n (row t.counted u) ≤ 1)
    → AreUsers t.counted t.users → AreUsers t.hard t.hard_users
    → t.missing.items ≡ map (λ n. length (row t.counted n)) (range_with_len 0 (length t.counted))
    → t.doomed.items ≡ replicate (length t.counted) false → (ends : List (Option End)) → IsTallied t [] ends
tallied_first t nodes once users hard_users missing doomed ends = record {
  nodes = nodes;
  users = users;
  hard_users = hard_users;
  once = once;
  missing_nodes = ap length missing ∙ length-map-range_with_len (λ n. length (row t.counted n)) 0 (length t.counted);
  doomed_nodes = ap length doomed ∙ length-replicate (length t.counted) false;
  missing = λ u. ap (λ l. slice_index l u) missing ∙ ⊎_elim (inside u) (outside u) (cases_lt u (length t.counted)) ∙ sym (lacking_all (row t.counted u));
  doomed = λ u. ap (λ l. slice_index_or l u false) doomed ∙ none u ∙ sym (none_lost ends (row t.hard u));
}
  where
    inside : (u : ℕ) → u < length t.counted → get_or (map (λ n. length (row t.counted n)) (range_with_len 0 (length t.counted))) u 0 ≡ length (row t.counted u)
    inside u h = get_or-map-range_with_len (λ n. length (row t.counted n)) 0 (length t.counted) u u 0 h (omega arith)

    outside : (u : ℕ) → length t.counted ≤ u → get_or (map (λ n. length (row t.counted n)) (range_with_len 0 (length t.counted))) u 0 ≡ length (row t.counted u)
    outside u h =
        get_or_past (map (λ n. length (row t.counted n)) (range_with_len 0 (length t.counted))) u 0
        (let l = length-map-range_with_len (λ n. length (row t.counted n)) 0 (length t.counted) in omega arith)
        ∙ sym (ap length (get_or_past t.counted u [] h))

    none : (u : ℕ) → get_or (replicate (length t.counted) false) u false ≡ false
    none u = ⊎_elim (λ lt. get_or-replicate (length t.counted) u false false lt)
        (λ le. get_or_past (replicate (length t.counted) false) u false (let l = length-replicate (length t.counted) false in omega arith)) (cases_lt u (length t.counted))

-- ---- nodes go to Ready, one after the other

range_more : (a k : ℕ) → range_with_len a (k + 1) ≡ range_with_len a k ++ (a + k) ∷ []
range_more a zero = ap (λ j. j ∷ []) (let h : a ≡ a + 0 = omega arith in h)
range_more a (suc k) =
    ap (range_with_len a) (let e : suc k + 1 ≡ suc (k + 1) = omega arith in e) ∙ ap (λ xs. a ∷ xs) (range_more (a + 1) k)
    ∙ ap (λ j. (a ∷ range_with_len (a + 1) k) ++ j ∷ []) (let h : a + 1 + k ≡ a + suc k = omega arith in h)

range_from : (i nodes : ℕ) → i < nodes → range_with_len i (nodes - i) ≡ i ∷ range_with_len (i + 1) (nodes - (i + 1))
range_from i nodes h = ap (range_with_len i) (let e : nodes - i ≡ suc (nodes - (i + 1)) = omega arith in e)

-- the first i nodes have been looked at
abbrev pub split_so_far : (may : ℕ → Bool) (nodes i : ℕ) → SixLists
split_so_far may nodes i = record {
  waiting = filter (λ n. not (may n)) (range_with_len 0 i) ++ range_with_len i (nodes - i);
  ready = filter may (range_with_len 0 i);
  running = [];
  unflushed = [];
  flushing = [];
  settled = [];
}

module _ (may : ℕ → Bool) (nodes i : ℕ) (h : i < nodes) where
  kept_more : (p : ℕ → Bool) → filter p (range_with_len 0 (i + 1)) ≡ filter p (range_with_len 0 i) ++ cond (p i) (i ∷ []) []
  kept_more p =
      ap (filter p) (range_more 0 i) ∙ filter-append p (range_with_len 0 i) ((0 + i) ∷ [])
      ∙ ap (λ k. filter p (range_with_len 0 i) ++ cond (p k) (k ∷ []) []) (let e : 0 + i ≡ i = omega arith in e)

  absent : (p : ℕ → Bool) → times i (filter p (range_with_len 0 i)) ≡ 0
  absent p = let a = times-filter p (range_with_len 0 i) i in let b = past_range i 0 i (omega arith) in omega arith

  stays_more : (rest : List ℕ) (b : Bool) → may i ≡ b → b ≡ false
      → filter (λ n. not (may n)) (range_with_len 0 i) ++ i ∷ rest ≡ filter (λ n. not (may n)) (range_with_len 0 (i + 1)) ++ rest
  stays_more rest b e f =
      sym (append_assoc (filter (λ n. not (may n)) (range_with_len 0 i)) (i ∷ []) rest)
      ∙ ap (λ k. (filter (λ n. not (may n)) (range_with_len 0 i) ++ cond (not k) (i ∷ []) []) ++ rest) (sym (e ∙ f))
      ∙ ap (λ xs. xs ++ rest) (sym (kept_more (λ n. not (may n))))

  pub split_stays : may i ≡ false → split_so_far may nodes i ≡ split_so_far may nodes (i + 1)
  split_stays e = λ j. record {
    waiting = (ap (λ xs. filter (λ n. not (may n)) (range_with_len 0 i) ++ xs) (range_from i nodes h)
        ∙ stays_more (range_with_len (i + 1) (nodes - (i + 1))) (may i) refl e) j;
    ready = (sym (append-nil (filter may (range_with_len 0 i))) ∙ ap (λ k. filter may (range_with_len 0 i) ++ cond k (i ∷ []) []) (sym e) ∙ sym (kept_more may)) j;
    running = [];
    unflushed = [];
    flushing = [];
    settled = [];
  }

  gone : may i ≡ true → without i (filter (λ n. not (may n)) (range_with_len 0 i) ++ range_with_len i (nodes - i)) ++ []
      ≡ filter (λ n. not (may n)) (range_with_len 0 (i + 1)) ++ range_with_len (i + 1) (nodes - (i + 1))
  gone e =
      append-nil (without i (filter (λ n. not (may n)) (range_with_len 0 i) ++ range_with_len i (nodes - i)))
      ∙ without-append i (filter (λ n. not (may n)) (range_with_len 0 i)) (range_with_len i (nodes - i))
      ∙ ap (λ xs. xs ++ without i (range_with_len i (nodes - i))) (without-none i (filter (λ n. not (may n)) (range_with_len 0 i)) (absent (λ n. not (may n))))
      ∙ ap (λ xs. filter (λ n. not (may n)) (range_with_len 0 i) ++ without i xs) (range_from i nodes h)
      ∙ ap (λ xs. filter (λ n. not (may n)) (range_with_len 0 i) ++ xs)
      (without-head i (range_with_len (i + 1) (nodes - (i + 1)))
      ∙ without-none i (range_with_len (i + 1) (nodes - (i + 1))) (below_range i (i + 1) (nodes - (i + 1)) (omega arith)))
      ∙ ap (λ xs. xs ++ range_with_len (i + 1) (nodes - (i + 1)))
      (sym (append-nil (filter (λ n. not (may n)) (range_with_len 0 i)))
      ∙ ap (λ k. filter (λ n. not (may n)) (range_with_len 0 i) ++ cond (not k) (i ∷ []) []) (sym e) ∙ sym (kept_more (λ n. not (may n))))

  pub split_goes : may i ≡ true → moved i Ready (split_so_far may nodes i) ≡ split_so_far may nodes (i + 1)
  split_goes e = λ j. record {
    waiting = gone e j;
    ready = (ap (λ xs. xs ++ i ∷ []) (without-none i (filter may (range_with_len 0 i)) (absent may))
        ∙ ap (λ k. filter may (range_with_len 0 i) ++ cond k (i ∷ []) []) (sym e) ∙ sym (kept_more may)) j;
    running = [];
    unflushed = [];
    flushing = [];
    settled = [];
  }

pub split_none : (may : ℕ → Bool) (nodes : ℕ) → all_waiting nodes ≡ split_so_far may nodes 0
split_none may nodes = ap (λ k. record (all_waiting 0) { waiting = range_with_len 0 k }) (let e : nodes ≡ nodes - 0 = omega arith in e)

-- one more node
module _ (may : ℕ → Bool) (nodes i : ℕ) (h : i < nodes) (first before after : Linked)
    (so_far : before ≡ record first { lists = split_so_far may nodes i }) where
  pub step_goes : (k : ℕ) → k ≡ i → may i ≡ true → after ≡ record before { lists = moved k Ready before.lists } → after ≡ record first { lists = split_so_far may nodes (i + 1) }
  step_goes k is e moves =
      moves ∙ ap (λ (v : Linked). record v { lists = moved k Ready v.lists }) so_far
      ∙ ap {B = Linked} (λ m. record first { lists = moved m Ready (split_so_far may nodes i) }) is
      ∙ ap {B = Linked} (λ l. record first { lists = l }) (split_goes may nodes i h e)

  pub step_stays : may i ≡ false → after ≡ before → after ≡ record first { lists = split_so_far may nodes (i + 1) }
  step_stays e same = same ∙ so_far ∙ ap {B = Linked} (λ l. record first { lists = l }) (split_stays may nodes i h e)

-- ---- where the nodes stand at first

times-split : (may : ℕ → Bool) (m : ℕ) (xs : List ℕ) → times m (filter (λ n. not (may n)) xs) + times m (filter may xs) ≡ times m xs
times-split may m [] = refl
times-split may m (x ∷ xs) = by (times-split may m xs) (may x)
  where
    by : times m (filter (λ n. not (may n)) xs) + times m (filter may xs) ≡ times m xs → (b : Bool)
        → times m (cond (not b) (x ∷ filter (λ n. not (may n)) xs) (filter (λ n. not (may n)) xs)) + times m (cond b (x ∷ filter may xs) (filter may xs)) ≡ times m (x ∷ xs)
    by rest true = let a = times-cons m x (filter may xs) in let b = times-cons m x xs in omega arith
    by rest false = let a = times-cons m x (filter (λ n. not (may n)) xs) in let b = times-cons m x xs in omega arith

nothing_waited_for : (xs : List ℕ) → not (holds_any xs) ≡ true → list_all (has []) xs ≡ true
nothing_waited_for [] e = refl
nothing_waited_for (x ∷ xs) e = absurd (true≢false (sym e))

kept_passes : (p : ℕ → Bool) (xs : List ℕ) (m : ℕ) → has (filter p xs) m ≡ true → p m ≡ true
kept_passes p xs m there = (and_parts (p m) (has xs m) (sym (has-filter p xs m) ∙ there)).0

pub standing_first : (g : Prerequisites) → IsStanding g (length g.counted) (first_standing g)
standing_first g = record {
  each_once = λ n. let split = times-split (is_ready_first g) n (range_with_len 0 (length g.counted)) in let all = all_once n in omega arith;
  ends_nodes = length-replicate (length g.counted) None;
  ended = λ n. ap is_some (no_end n);
  free = by;
}
  where
    all_once : (n : ℕ) → times n (range_with_len 0 (length g.counted)) ≡ cond {A = ℕ} (nat_lt n (length g.counted)) 1 0
    all_once n = ⊎_elim
        (λ lt. in_range n 0 (length g.counted) (omega arith) (omega arith) ∙ ap (λ b. cond {A = ℕ} b 1 0) (sym (lt-ltb n (length g.counted) lt)))
        (λ le. past_range n 0 (length g.counted) (omega arith) ∙ ap (λ b. cond {A = ℕ} b 1 0) (sym (le-ltb n (length g.counted) le))) (cases_lt n (length g.counted))

    none : Option End
    none = None

    no_end : (n : ℕ) → get_or (replicate (length g.counted) none) n none ≡ none
    no_end n = ⊎_elim (λ lt. get_or-replicate (length g.counted) n none none lt)
        (λ le. get_or_past (replicate (length g.counted) none) n none (let l = length-replicate (length g.counted) none in omega arith)) (cases_lt n (length g.counted))

    by : (stand : Stand) (n : ℕ) → is_under_way stand ≡ true → has (list_in (split_by (is_ready_first g) (length g.counted)) stand) n ≡ true
        → is_free g (first_standing g) n ≡ true
    by Waiting n under there = absurd (true≢false (sym under))
    by Ready n under there = nothing_waited_for (row g.counted n) (kept_passes (is_ready_first g) (range_with_len 0 (length g.counted)) n there)
    by Running n under there = absurd (true≢false (sym there))
    by Unflushed n under there = absurd (true≢false (sym there))
    by Flushing n under there = absurd (true≢false (sym there))
    by Settled n under there = absurd (true≢false (sym under))

-- a node waits for nothing just where its count is zero
nat_eq-length : (xs : List ℕ) → nat_eq (length xs) 0 ≡ not (holds_any xs)
nat_eq-length [] = refl
nat_eq-length (x ∷ xs) = ne_eqb (length (x ∷ xs)) 0 (λ e. absurd (omega arith))

pub ready_by_count : (t : Tally) (ends : List (Option End)) → IsTallied t [] ends → (n : ℕ)
    → nat_eq (slice_index t.missing.items n) 0 ≡ not (holds_any (row t.counted n))
ready_by_count t ends tallied n = ap (λ k. nat_eq k 0) (tallied.missing n ∙ lacking_all (row t.counted n)) ∙ nat_eq-length (row t.counted n)

-- ---- the tables together

module _ (t : Tally) (tallied : (ends : List (Option End)) → IsTallied t [] ends) where
  counted_out : (missing : List ℕ) → missing ≡ t.missing.items → (n : ℕ) → nat_eq (slice_index missing n) 0 ≡ is_ready_first (prerequisites_of t) n
  counted_out missing are n = ap (λ l. nat_eq (slice_index l n) 0) are ∙ ready_by_count t [] (tallied []) n

  pub links_first : (first after : Linked) (nodes : ℕ) (missing : List ℕ) → after ≡ record first { lists = split_by (λ n. nat_eq (slice_index missing n) 0) first.nodes }
      → first ≡ record { nodes = nodes; joins = 0; lists = all_waiting nodes } → nodes ≡ length t.counted → missing ≡ t.missing.items
      → after ≡ record { nodes = length t.counted; joins = 0; lists = split_by (is_ready_first (prerequisites_of t)) (length t.counted) }
  links_first first after nodes missing e is nodes_are are =
      e ∙ ap (λ (v : Linked). record v { lists = split_by (λ n. nat_eq (slice_index missing n) 0) v.nodes }) is
      ∙ ap {B = Linked} (λ k. record { nodes = k; joins = 0; lists = split_by (λ n. nat_eq (slice_index missing n) 0) k }) nodes_are
      ∙ (λ i. record { nodes = length t.counted; joins = 0; lists = split_by (λ n. counted_out missing are n i) (length t.counted) })

  pub places_first : (a : Inside) → a.tally ≡ t
      → a.links ≡ record { nodes = length t.counted; joins = 0; lists = split_by (is_ready_first (prerequisites_of t)) (length t.counted) }
      → a.ends.items ≡ replicate (length t.counted) None → ArePlaces a
  places_first a is links ends = record {
    nodes = ap (λ (v : Linked). v.nodes) links ∙ sym (ap (λ (u : Tally). length u.counted) is);
    standing = subst (λ (u : Tally). IsStanding (prerequisites_of u) a.links.nodes (standing a.links.lists a.ends.items)) (sym is)
        (subst (λ (v : Linked). IsStanding (prerequisites_of t) v.nodes (standing v.lists a.ends.items)) (sym links)
        (subst (λ es. IsStanding (prerequisites_of t) (length t.counted) (standing (split_by (is_ready_first (prerequisites_of t)) (length t.counted)) es)) (sym ends)
        (standing_first (prerequisites_of t))));
    tallied = subst (λ (u : Tally). IsTallied u a.links.lists.settled a.ends.items) (sym is)
        (subst (λ (v : Linked). IsTallied t v.lists.settled a.ends.items) (sym links) (tallied a.ends.items));
  }

  pub placed_first : (a : Inside) → a.tally ≡ t
      → a.links ≡ record { nodes = length t.counted; joins = 0; lists = split_by (is_ready_first (prerequisites_of t)) (length t.counted) }
      → a.ends.items ≡ replicate (length t.counted) None → placed_of a ≡ first_placed (prerequisites_of t)
  placed_first a is links ends = λ i. record { prerequisites = prerequisites_of (is i); joins = (links i).joins; standing = standing (links i).lists (ends i) }
