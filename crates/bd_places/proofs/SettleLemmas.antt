-- What is true while settled nodes are looked at, one after the other.
use Rattle.std.proofs.Common.{◌≡◌, ◌≢◌, ℕ, zero, suc, ◌+◌, ◌-◌, ◌<◌, ◌≤◌, Bool, true, false, cond, not, ◌&&◌, ◌||◌, nat_eq, List, [], ◌∷◌, ◌++◌, length, filter, take, get_or, slice_get, slice_index_or, Option, Some, None, refl, sym, ap, ◌∙◌, subst, ⊎_elim, ◌⊎◌, arith, eqb, eq-eqb, ne_eqb, true≢false, length-append}
use Rattle.std.proofs.lemmas.Bool.{cases_lt, and_parts}
use Rattle.std.proofs.lemmas.List.{take_more}
use Rattle.std.proofs.lemmas.Option.{slice_get_within, slice_get-get_or, get_or_from_slice_get}
use Rattle.std.specs.List.{list_any, range_with_len}
use Rattle.mk_graph.specs.Edges.{row, has, times}
use Rattle.bd_places.specs.declared.end.End.{End}
use Rattle.bd_places.specs.declared.tally.Tally.{Tally}
use Rattle.bd_links.specs.declared.stand.Stand.{Stand}
use Rattle.bd_links.specs.declared.stand.Stand.TheVariants.{Waiting, Settled}
use Rattle.bd_links.specs.SixLists.{SixLists, list_in, code, IsEachOnce}
use Rattle.bd_places.specs.Settling.{Prerequisites, Standing, standing, is_lost, is_free, is_doomed, can_go_on, users_of, ended, looked_at, LooksOn, IsStanding}
use Rattle.bd_places.specs.Tally.{prerequisites_of, IsTallied}
use Rattle.bd_links.proofs.ListLemmas.{times-cons, times-head, times_room}
use Rattle.bd_links.proofs.LinkedLemmas.{length_bound}
use Rattle.bd_places.proofs.TallyLemmas.{has-times}
use Rattle.bd_places.proofs.StandingLemmas.{Goes, goes, at_most_once, nowhere_else, below_from_has, none_from_has, positive_from_has, settled-ended, end_of-ended_other, end_of-ended_same, IsStanding-ended}
use Rattle.bd_places.proofs.UserLemmas.{has-filter}
use Rattle.bd_links.proofs.FirstLemmas.{in_range, past_range}

-- ---- places in lists that have each number once

pub has_from_place : (xs : List ℕ) (k n : ℕ) → slice_get xs k ≡ Some n → has xs n ≡ true
has_from_place [] k n there = absurd (cc)
has_from_place (x ∷ xs) zero n there = ap (λ b. b || has xs n) (eq-eqb n x (cc))
has_from_place (x ∷ xs) (suc k) n there = ap (λ b. nat_eq n x || b) (has_from_place xs k n there) ∙ or_true (nat_eq n x)
  where
    or_true : (b : Bool) → (b || true) ≡ true
    or_true true = refl
    or_true false = refl

-- where a number is in a list
abbrev pub place : ℕ → List ℕ → ℕ
place n [] = 0
place n (x ∷ xs) = cond (nat_eq n x) 0 (suc (place n xs))

pub place_is : (xs : List ℕ) (k n : ℕ) → times n xs ≤ 1 → slice_get xs k ≡ Some n → place n xs ≡ k
place_is [] k n once there = absurd (cc)
place_is (x ∷ xs) zero n once there = ap (λ b. cond b 0 (suc (place n xs))) (eq-eqb n x (cc))
place_is (x ∷ xs) (suc k) n once there =
    ap (λ b. cond b 0 (suc (place n xs))) (ne_eqb n x apart) ∙ ap suc (place_is xs k n (let h = times-cons n x xs in omega arith) there)
  where
    apart : n ≡ x → ⊥
    apart e =
        let head : times n (x ∷ xs) ≡ 1 + times n xs = ap (λ y. times n (y ∷ xs)) (sym e) ∙ times-head n xs in
        let one = positive_from_has xs n (has_from_place xs k n there) in
        omega arith

pub times-filter : (p : ℕ → Bool) (xs : List ℕ) (m : ℕ) → times m (filter p xs) ≤ times m xs
times-filter p [] m = omega arith
times-filter p (x ∷ xs) m = by (times-filter p xs m) (p x)
  where
    by : times m (filter p xs) ≤ times m xs → (b : Bool) → times m (cond b (x ∷ filter p xs) (filter p xs)) ≤ times m (x ∷ xs)
    by rest true = let h = times-cons m x (filter p xs) in let k = times-cons m x xs in omega arith
    by rest false = let k = times-cons m x xs in omega arith

range_once : (m n : ℕ) → times m (range_with_len 0 n) ≤ 1
range_once m n = ⊎_elim (λ lt. let h = in_range m 0 n (omega arith) (omega arith) in omega arith) (λ le. let h = past_range m 0 n (omega arith) in omega arith) (cases_lt m n)

slice_get-front : (xs ys : List ℕ) (k n : ℕ) → slice_get xs k ≡ Some n → slice_get (xs ++ ys) k ≡ Some n
slice_get-front [] ys k n there = absurd (cc)
slice_get-front (x ∷ xs) ys zero n there = there
slice_get-front (x ∷ xs) ys (suc k) n there = slice_get-front xs ys k n there

take-front : (xs ys : List ℕ) → take (length xs) (xs ++ ys) ≡ xs
take-front [] ys = refl
take-front (x ∷ xs) ys = ap (λ l. x ∷ l) (take-front xs ys)

-- ---- ends of nodes that haven't settled don't count

pub IsTallied-ends : (t : Tally) (settled : List ℕ) (ends later : List (Option End)) → ((m : ℕ) → has settled m ≡ true → slice_index_or later m None ≡ slice_index_or ends m None)
    → IsTallied t settled ends → IsTallied t settled later
IsTallied-ends t settled ends later same was = record {
  nodes = was.nodes;
  users = was.users;
  hard_users = was.hard_users;
  once = was.once;
  missing_nodes = was.missing_nodes;
  doomed_nodes = was.doomed_nodes;
  missing = was.missing;
  doomed = λ u. was.doomed u ∙ (λ i. list_any (λ m. alike m (has settled m) refl i) (row t.hard u));
}
  where
    alike : (m : ℕ) (b : Bool) → has settled m ≡ b → (has settled m && is_lost (slice_index_or ends m None)) ≡ (has settled m && is_lost (slice_index_or later m None))
    alike m true e = ap (λ k. has settled m && is_lost k) (sym (same m e))
    alike m false e = ap (λ b. b && is_lost (slice_index_or ends m None)) e ∙ sym (ap (λ b. b && is_lost (slice_index_or later m None)) e)

-- ---- the loop

-- what is true before each look: `looked` is the next node to be looked at, `last` the last one of Settled
pub record Looking (g : Prerequisites) (start : Standing) (from : ℕ) (t : Tally) (nodes : ℕ) (s : Standing) (last : ℕ) (looked : Option ℕ) : Type 0 where
  pub edges : prerequisites_of t ≡ g
  pub nodes_are : nodes ≡ length g.counted
  pub standing : IsStanding g nodes s
  pub tallied : IsTallied t s.lists.settled s.ends
  pub last_is : (k : ℕ) × (slice_get s.lists.settled k ≡ Some last) × (k + 1 ≡ length s.lists.settled)
  pub on : (k : ℕ) × (slice_get s.lists.settled k ≡ looked) × (k ≤ length s.lists.settled) × ((u : Standing) → LooksOn g k s u → LooksOn g from start u)

slice_get-last : (xs : List ℕ) (x : ℕ) → slice_get (xs ++ x ∷ []) (length xs) ≡ Some x
slice_get-last [] x = refl
slice_get-last (y ∷ xs) x = slice_get-last xs x

pub looking_first : (g : Prerequisites) (nodes : ℕ) (s : Standing) (n : ℕ) (end : End) (t : Tally) → IsStanding g nodes s → n < nodes → nodes ≡ length g.counted
    → has s.lists.settled n ≡ false → prerequisites_of t ≡ g → IsTallied t (s.lists.settled ++ n ∷ []) (ended n end s).ends
    → Looking g (ended n end s) (length s.lists.settled) t nodes (ended n end s) n (Some n)
looking_first g nodes s n end t is in_n nodes_are fresh edges tallied = record {
  edges = edges;
  nodes_are = nodes_are;
  standing = IsStanding-ended g nodes s is n in_n end fresh;
  tallied = subst (λ xs. IsTallied t xs (ended n end s).ends) (sym grown) tallied;
  last_is = (length s.lists.settled, here, sym (ap length grown ∙ length-append s.lists.settled (n ∷ [])));
  on = (length s.lists.settled, here, (let h : length (ended n end s).lists.settled ≡ length s.lists.settled + 1 = ap length grown ∙ length-append s.lists.settled (n ∷ []) in omega arith), λ u looks. looks);
}
  where
    grown : (ended n end s).lists.settled ≡ s.lists.settled ++ n ∷ []
    grown = settled-ended g nodes s is n in_n end fresh

    here : slice_get (ended n end s).lists.settled (length s.lists.settled) ≡ Some n
    here = ap (λ xs. slice_get xs (length s.lists.settled)) grown ∙ slice_get-last s.lists.settled n

-- those that a look at a node lets go on
abbrev pub freed : Prerequisites → Standing → ℕ → List ℕ
freed g s n = filter (can_go_on g s) (users_of g n)

module _ (g : Prerequisites) (nodes : ℕ) (s : Standing) (is : IsStanding g nodes s) (n : ℕ) where
  freed_parts : (m : ℕ) → has (freed g s n) m ≡ true → (has s.lists.waiting m ≡ true) × (is_free g s m ≡ true)
  freed_parts m there =
      let h = and_parts (can_go_on g s m) (has (users_of g n) m) (sym (has-filter (can_go_on g s) (users_of g n) m) ∙ there) in
      and_parts (has s.lists.waiting m) (is_free g s m) h.0

  freed_once : (m : ℕ) → times m (freed g s n) ≤ 1
  freed_once m =
      let a = times-filter (can_go_on g s) (users_of g n) m in
      let b = times-filter (λ u. has (row g.counted u) n) (range_with_len 0 (length g.counted)) m in
      let c = range_once m (length g.counted) in
      omega arith

  pub after_look : Goes g nodes (is_doomed g s) (freed g s n) s (looked_at g n s)
  after_look = goes g nodes (is_doomed g s) (freed g s n) s is (λ m h. (freed_parts m h).0) (λ m h. (freed_parts m h).1) freed_once

  -- what a look lets go on was in Waiting
  pub freed_apart : (stand : Stand) → code stand ≢ 0 → (m : ℕ) → has (freed g s n) m ≡ true → has (list_in s.lists stand) m ≡ false
  freed_apart stand other m there = nowhere_else nodes s.lists is.each_once Waiting stand m (λ e. other (sym e)) (freed_parts m there).0

-- a look at the next one
module _ (g : Prerequisites) (start : Standing) (from : ℕ) (t : Tally) (nodes : ℕ) (s : Standing) (last n : ℕ)
    (was : Looking g start from t nodes s last (Some n)) where
  pub looked_in : n < nodes
  looked_in = below_from_has nodes s.lists was.standing.each_once Settled n (has_from_place s.lists.settled was.on.0 n was.on.1)

  after_now : Goes g nodes (is_doomed g s) (freed g s n) s (looked_at g n s)
  after_now = after_look g nodes s was.standing n

  pub standing_looked : IsStanding g nodes (looked_at g n s)
  standing_looked = after_now.standing

  pub tallied_looked : IsTallied t s.lists.settled (looked_at g n s).ends
  tallied_looked = IsTallied-ends t s.lists.settled s.ends (looked_at g n s).ends same was.tallied
    where
      same : (m : ℕ) → has s.lists.settled m ≡ true → slice_index_or (looked_at g n s).ends m None ≡ slice_index_or s.ends m None
      same m there = after_now.ends m (none_from_has (freed g s n) m (not_freed (has (freed g s n) m) refl))
        where
          not_freed : (b : Bool) → has (freed g s n) m ≡ b → has (freed g s n) m ≡ false
          not_freed true e = absurd (true≢false (sym there ∙ freed_apart g nodes s was.standing n Settled (λ h. absurd (omega arith)) m e))
          not_freed false e = e

  pub last_looked : (k : ℕ) × (slice_get (looked_at g n s).lists.settled k ≡ Some last) × IsTallied t (take (k + 1) (looked_at g n s).lists.settled) (looked_at g n s).ends
  last_looked = (
    was.last_is.0,
    ap (λ xs. slice_get xs was.last_is.0) after_now.settled ∙ slice_get-front s.lists.settled (filter (is_doomed g s) (freed g s n)) was.last_is.0 last was.last_is.1,
    subst (λ xs. IsTallied t xs (looked_at g n s).ends) (sym (ap (λ k. take k (looked_at g n s).lists.settled) was.last_is.2
        ∙ ap (take (length s.lists.settled)) after_now.settled ∙ take-front s.lists.settled (filter (is_doomed g s) (freed g s n)))) tallied_looked,
  )

  pub looked_place : slice_get (looked_at g n s).lists.settled was.on.0 ≡ Some n
  looked_place = ap (λ xs. slice_get xs was.on.0) after_now.settled ∙ slice_get-front s.lists.settled (filter (is_doomed g s) (freed g s n)) was.on.0 n was.on.1

  pub looking_next : (next : Tally) (last' : ℕ) (looked : Option ℕ) → prerequisites_of next ≡ prerequisites_of t
      → IsTallied next (looked_at g n s).lists.settled (looked_at g n s).ends
      → (k : ℕ) × (slice_get (looked_at g n s).lists.settled k ≡ Some last') × (k + 1 ≡ length (looked_at g n s).lists.settled)
      → looked ≡ slice_get (looked_at g n s).lists.settled (was.on.0 + 1)
      → Looking g start from next nodes (looked_at g n s) last' looked
  looking_next next last' looked same tallied last_is behind = record {
    edges = same ∙ was.edges;
    nodes_are = was.nodes_are;
    standing = standing_looked;
    tallied = tallied;
    last_is = last_is;
    on = (
      was.on.0 + 1,
      sym behind,
      (let h = slice_get_within (looked_at g n s).lists.settled was.on.0 n looked_place in omega arith),
      λ u looks_on. was.on.3 u (LooksOn.looks n was.on.1 looks_on),
    );
  }

pub looking_done : (g : Prerequisites) (start : Standing) (from : ℕ) (t : Tally) (nodes : ℕ) (s : Standing) (last : ℕ)
    → Looking g start from t nodes s last None → LooksOn g from start s
looking_done g start from t nodes s last was = was.on.3 s (LooksOn.all_looked (end (cases_lt was.on.0 (length s.lists.settled))))
  where
    end : (was.on.0 < length s.lists.settled) ⊎ (length s.lists.settled ≤ was.on.0) → was.on.0 ≡ length s.lists.settled
    end h = ⊎_elim
        (λ lt. let there = slice_get-get_or s.lists.settled was.on.0 0 lt in let none = was.on.1 in absurd (cc))
        (λ past. let within = was.on.2 in omega arith) h

-- the first of these looks
pub settled_first : (t next : Tally) (nodes : ℕ) (s : Standing) (n : ℕ) (end : End) (lists : SixLists) (ends : List (Option End))
    → IsStanding (prerequisites_of t) nodes s → IsTallied t s.lists.settled s.ends → n < nodes → nodes ≡ length t.counted → has s.lists.settled n ≡ false
    → prerequisites_of next ≡ prerequisites_of t
    → ((settled : List ℕ) (ends : List (Option End)) → IsTallied t settled ends → has settled n ≡ false → slice_index_or ends n None ≡ Some end
    → IsTallied next (settled ++ n ∷ []) ends)
    → lists ≡ (ended n end s).lists → ends ≡ (ended n end s).ends
    → Looking (prerequisites_of t) (ended n end s) (length s.lists.settled) next nodes (standing lists ends) n (Some n)
settled_first t next nodes s n end lists ends is tallied in_n nodes_are fresh edges counts lists_are ends_are =
    subst (λ u. Looking (prerequisites_of t) (ended n end s) (length s.lists.settled) next nodes u n (Some n)) (sym (alike lists_are ends_are))
    (looking_first (prerequisites_of t) nodes s n end next is in_n nodes_are fresh edges
    (counts s.lists.settled (ended n end s).ends (IsTallied-ends t s.lists.settled s.ends (ended n end s).ends same tallied) fresh
    (end_of-ended_same (prerequisites_of t) nodes s is n in_n end)))
  where
    alike : lists ≡ (ended n end s).lists → ends ≡ (ended n end s).ends → standing lists ends ≡ ended n end s
    alike a b = λ i. record { lists = a i; ends = b i }

    same : (m : ℕ) → has s.lists.settled m ≡ true → slice_index_or (ended n end s).ends m None ≡ slice_index_or s.ends m None
    same m there = end_of-ended_other (prerequisites_of t) nodes s is n in_n end m (λ e. true≢false (sym there ∙ ap (has s.lists.settled) e ∙ fresh))

-- how many nodes may still be looked at
abbrev pub left_to_look : (nodes : ℕ) → List ℕ → Option ℕ → ℕ
left_to_look nodes settled None = 0
left_to_look nodes settled (Some n) = suc (nodes - place n settled)

-- no list is longer than there are nodes
pub length_within : (nodes : ℕ) (l : SixLists) → IsEachOnce nodes l → (s : Stand) → length (list_in l s) ≤ nodes
length_within nodes l each s = length_bound nodes (list_in l s) (at_most_once nodes l each s) (λ m le. none_from_has (list_in l s) m (not_in m le (has (list_in l s) m) refl))
  where
    not_in : (m : ℕ) → nodes ≤ m → (b : Bool) → has (list_in l s) m ≡ b → has (list_in l s) m ≡ false
    not_in m le true e = let lt = below_from_has nodes l each s m e in absurd (omega arith)
    not_in m le false e = e

-- the node that was looked at isn't looked at again
module _ (g : Prerequisites) (start : Standing) (from : ℕ) (t : Tally) (nodes : ℕ) (s : Standing) (last n : ℕ)
    (was : Looking g start from t nodes s last (Some n)) (looked : Option ℕ)
    (behind : looked ≡ slice_get (looked_at g n s).lists.settled (was.on.0 + 1)) where
  pub less_to_look : left_to_look nodes (looked_at g n s).lists.settled looked < left_to_look nodes s.lists.settled (Some n)
  less_to_look = by looked behind
    where
      once : (m : ℕ) → times m (looked_at g n s).lists.settled ≤ 1
      once m = at_most_once nodes (looked_at g n s).lists (standing_looked g start from t nodes s last n was).each_once Settled m

      here : place n s.lists.settled ≡ was.on.0
      here = place_is s.lists.settled was.on.0 n (at_most_once nodes s.lists was.standing.each_once Settled n) was.on.1

      by : (o : Option ℕ) → o ≡ slice_get (looked_at g n s).lists.settled (was.on.0 + 1)
          → left_to_look nodes (looked_at g n s).lists.settled o < left_to_look nodes s.lists.settled (Some n)
      by None e = omega arith
      by (Some m) e =
          let there = place_is (looked_at g n s).lists.settled (was.on.0 + 1) m (once m) (sym e) in
          let within = slice_get_within (looked_at g n s).lists.settled (was.on.0 + 1) m (sym e) in
          let most = length_within nodes (looked_at g n s).lists (standing_looked g start from t nodes s last n was).each_once Settled in
          let is = here in
          omega arith

-- what a look at the next node leaves
pub record LookedOn (g : Prerequisites) (start : Standing) (from : ℕ) (t : Tally) (nodes : ℕ) (s : Standing) (last : ℕ) (looked : Option ℕ) (n : ℕ) (after : Standing)
    : Type 0 where
  pub each_once : IsEachOnce nodes after.lists
  pub tallied : (k : ℕ) × (slice_get after.lists.settled k ≡ Some last) × IsTallied t (take (k + 1) after.lists.settled) after.ends
  pub on : (next : Tally) (last' : ℕ) (looked' : Option ℕ) → prerequisites_of next ≡ prerequisites_of t → IsTallied next after.lists.settled after.ends
      → (k : ℕ) × (slice_get after.lists.settled k ≡ Some last') × (k + 1 ≡ length after.lists.settled)
      → ((stand : Stand) (k : ℕ) → slice_get (list_in after.lists stand) k ≡ Some n → looked' ≡ slice_get (list_in after.lists stand) (k + 1))
      → Looking g start from next nodes after last' looked'
  pub less : (looked' : Option ℕ)
      → ((stand : Stand) (k : ℕ) → slice_get (list_in after.lists stand) k ≡ Some n → looked' ≡ slice_get (list_in after.lists stand) (k + 1))
      → left_to_look nodes after.lists.settled looked' < left_to_look nodes s.lists.settled looked

module _ (g : Prerequisites) (start : Standing) (from : ℕ) (t : Tally) (nodes : ℕ) (s : Standing) (last : ℕ) (looked : Option ℕ) (n : ℕ)
    (some : looked ≡ Some n) (was : Looking g start from t nodes s last looked) where
  looking_at : Looking g start from t nodes s last (Some n)
  looking_at = subst (Looking g start from t nodes s last) some was

  pub looked_below : n < nodes
  looked_below = looked_in g start from t nodes s last n looking_at

  looked_on_now : LookedOn g start from t nodes s last (Some n) n (looked_at g n s)
  looked_on_now = record {
    each_once = (standing_looked g start from t nodes s last n looking_at).each_once;
    tallied = last_looked g start from t nodes s last n looking_at;
    on = λ next last' looked' same tallied last_is behind.
        looking_next g start from t nodes s last n looking_at next last' looked' same tallied last_is
        (behind Settled looking_at.on.0 (looked_place g start from t nodes s last n looking_at));
    less = λ looked' behind.
        less_to_look g start from t nodes s last n looking_at looked'
        (behind Settled looking_at.on.0 (looked_place g start from t nodes s last n looking_at));
  }

  pub looked_on : (after : Standing) → after ≡ looked_at (prerequisites_of t) n s → LookedOn g start from t nodes s last looked n after
  looked_on after e =
      subst (λ o. LookedOn g start from t nodes s last o n after) (sym some)
      (subst (LookedOn g start from t nodes s last (Some n) n) (sym (e ∙ ap (λ h. looked_at h n s) was.edges)) looked_on_now)

-- ---- counting on, behind the last one counted

module _ (xs : List ℕ) (k last n : ℕ) (once : (m : ℕ) → times m xs ≤ 1) (there : slice_get xs k ≡ Some last) (behind : slice_get xs (k + 1) ≡ Some n) where
  behind_within : k + 1 < length xs
  behind_within = slice_get_within xs (k + 1) n behind

  behind_is : get_or xs (k + 1) 0 ≡ n
  behind_is = get_or_from_slice_get xs (k + 1) n 0 behind

  pub behind_fresh : has (take (k + 1) xs) n ≡ false
  behind_fresh =
      has-times (take (k + 1) xs) n ∙ ap (λ m. not (eqb m 0))
      (let room : times n (take (k + 1) xs) + 1 ≤ times n xs = subst (λ m. times m (take (k + 1) xs) + 1 ≤ times m xs) behind_is (times_room xs (k + 1) behind_within) in
      let one = once n in
      let none : times n (take (k + 1) xs) ≡ 0 = omega arith in
      none)

  pub behind_taken : take (k + 1 + 1) xs ≡ take (k + 1) xs ++ n ∷ []
  behind_taken = take_more xs (k + 1) 0 behind_within ∙ ap (λ y. take (k + 1) xs ++ y ∷ []) behind_is

  pub behind_smaller : length xs - place n xs < length xs - place last xs
  behind_smaller =
      let a = place_is xs k last (once last) there in
      let b = place_is xs (k + 1) n (once n) behind in
      let within = behind_within in
      omega arith

-- behind the last of a list there is nothing
pub last_place : (xs : List ℕ) (k last : ℕ) → slice_get xs k ≡ Some last → None ≡ slice_get xs (k + 1) → k + 1 ≡ length xs
last_place xs k last there none = ⊎_elim (λ lt. let some = slice_get-get_or xs (k + 1) 0 lt in absurd (cc)) (λ past. let within = slice_get_within xs k last there in omega arith)
    (cases_lt (k + 1) (length xs))
