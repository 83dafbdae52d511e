-- A node that waits counts one that hasn't settled, also behind all looks; and looks come to an end.
use Rattle.std.proofs.Common.{◌≡◌, ◌≢◌, ◌⊎◌, ℕ, zero, suc, ◌+◌, ◌<◌, ◌≤◌, Bool, true, false, ◌||◌, nat_eq, List, [], ◌∷◌, ◌++◌, length, filter, get_or, slice_get, Some, refl, sym, ap, ◌∙◌, subst, inl, inr, ⊎_elim, arith, ne_eqb, eqb-true, true≢false, length-append}
use Rattle.std.proofs.lemmas.Bool.{cases_eq, cases_lt, and_from}
use Rattle.std.proofs.lemmas.Option.{slice_get_within, slice_get-get_or}
use Rattle.std.specs.List.{range_with_len}
use Rattle.mk_graph.specs.Edges.{row, has}
use Rattle.mk_graph.proofs.RowLemmas.{list_all-has}
use Rattle.bd_links.specs.declared.stand.Stand.TheVariants.{Waiting, Ready, Settled}
use Rattle.bd_links.proofs.FirstLemmas.{in_range}
use Rattle.bd_places.specs.declared.end.End.{End}
use Rattle.bd_places.specs.Settling.{Prerequisites, Standing, is_free, is_doomed, can_go_on, users_of, ended, gone_on, all_gone_on, looked_at, LooksOn, Settles, IsStanding}
use Rattle.bd_places.proofs.UserLemmas.{has-filter}
use Rattle.bd_places.proofs.SettleLemmas.{has_from_place, after_look, freed, length_within}
use Rattle.bd_places.proofs.StandingLemmas.{has-moved_same, has-moved_other, has_from_times, none_from_has, times-all_gone_on_other, below_from_has, settled-ended, IsStanding-ended}
use Rattle.bd_progress.proofs.KnotLemmas.{first_refused}

some_is : (x y : ℕ) → Some x ≡ Some y → x ≡ y
some_is x y e = cc

slice_get-front : (xs ys : List ℕ) (k n : ℕ) → slice_get xs k ≡ Some n → slice_get (xs ++ ys) k ≡ Some n
slice_get-front [] ys k n there = absurd (cc)
slice_get-front (x ∷ xs) ys zero n there = there
slice_get-front (x ∷ xs) ys (suc k) n there = slice_get-front xs ys k n there

-- behind a list's own places stand those of the list behind it
slice_get-behind : (xs ys : List ℕ) (k n : ℕ) → slice_get (xs ++ ys) k ≡ Some n → has xs n ≡ false → length xs ≤ k
slice_get-behind xs ys k n there not_in = ⊎_elim
    (λ lt. absurd (true≢false (sym (has_from_place xs k (get_or xs k 0) (slice_get-get_or xs k 0 lt)) ∙ ap (has xs) (same lt) ∙ not_in)))
    (λ le. le) (cases_lt k (length xs))
  where
    same : k < length xs → get_or xs k 0 ≡ n
    same lt = some_is (get_or xs k 0) n (sym (slice_get-front xs ys k (get_or xs k 0) (slice_get-get_or xs k 0 lt)) ∙ there)

-- where a list has a number
place_of : (xs : List ℕ) (n : ℕ) → has xs n ≡ true → (k : ℕ) × (slice_get xs k ≡ Some n)
place_of [] n h = absurd (true≢false (sym h))
place_of (x ∷ xs) n h = by (place_of xs n) (nat_eq n x) refl
  where
    by : (has xs n ≡ true → (k : ℕ) × (slice_get xs k ≡ Some n)) → (b : Bool) → nat_eq n x ≡ b → (k : ℕ) × (slice_get (x ∷ xs) k ≡ Some n)
    by rest true e = (0, ap (λ (y : ℕ). Some y) (sym (eqb-true n x e)))
    by rest false e = let r = rest (sym (ap (λ b. b || has xs n) e) ∙ h) in (suc r.0, r.1)

-- ---- a look takes from Waiting those that can go on

gone_waits_not : (b : Bool) (n : ℕ) (s : Standing) → has (gone_on b n s).lists.waiting n ≡ false
gone_waits_not true n s = has-moved_same n Settled s.lists Waiting
gone_waits_not false n s = has-moved_same n Ready s.lists Waiting

all_gone_wait_not : (d : ℕ → Bool) (xs : List ℕ) (s : Standing) (m : ℕ) → has xs m ≡ true → has (all_gone_on d xs s).lists.waiting m ≡ false
all_gone_wait_not d [] s m there = absurd (true≢false (sym there))
all_gone_wait_not d (x ∷ xs) s m there = by (all_gone_wait_not d xs (gone_on (d x) x s) m) (has xs m) refl
  where
    by : (has xs m ≡ true → has (all_gone_on d xs (gone_on (d x) x s)).lists.waiting m ≡ false) → (b : Bool) → has xs m ≡ b
        → has (all_gone_on d xs (gone_on (d x) x s)).lists.waiting m ≡ false
    by rest true e = rest e
    by rest false e = has_from_times _ (gone_on (d x) x s).lists.waiting m (times-all_gone_on_other d m xs (gone_on (d x) x s) Waiting (none_from_has xs m e))
        ∙ subst (λ k. has (gone_on (d x) x s).lists.waiting k ≡ false) (sym here) (gone_waits_not (d x) x s)
      where
        here : m ≡ x
        here = ⊎_elim (λ same. same) (λ ne. absurd (true≢false (sym there ∙ ap (λ b. b || has xs m) (ne_eqb m x ne) ∙ e))) (cases_eq m x)

-- a number of a closed range
in_nodes : (m n : ℕ) → m < n → has (range_with_len 0 n) m ≡ true
in_nodes m n lt = by (has (range_with_len 0 n) m) refl
  where
    by : (b : Bool) → has (range_with_len 0 n) m ≡ b → has (range_with_len 0 n) m ≡ true
    by true e = e
    by false e = let none = none_from_has (range_with_len 0 n) m e in let one = in_range m 0 n (omega arith) (omega arith) in absurd (omega arith)

-- ---- what waits

-- a prerequisite of the node is in Settled at a place from this one on
pub record Lies (g : Prerequisites) (u k : ℕ) (settled : List ℕ) : Type 0 where
  pub node : ℕ
  pub place : ℕ
  pub behind : k ≤ place
  pub there : slice_get settled place ≡ Some node
  pub own : has (row g.counted u) node ≡ true

-- each node that waits, and is free, is freed by a look that is still to come
abbrev pub AwaitLooks : Prerequisites → ℕ → Standing → Type 0
AwaitLooks g k s = (u : ℕ) → has s.lists.waiting u ≡ true → is_free g s u ≡ true → Lies g u k s.lists.settled

-- a node that waits isn't free
abbrev pub WaitersWait : Prerequisites → Standing → Type 0
WaitersWait g s = (u : ℕ) → has s.lists.waiting u ≡ true → is_free g s u ≡ false

-- where a node has become free, one of its prerequisites settled meanwhile
newly_free : (g : Prerequisites) (s t : Standing) (ys : List ℕ) (u : ℕ) → t.lists.settled ≡ s.lists.settled ++ ys → is_free g s u ≡ false
    → is_free g t u ≡ true → Lies g u (length s.lists.settled) t.lists.settled
newly_free g s t ys u grown was now =
    let r = first_refused (has s.lists.settled) (row g.counted u) was in
    let at = place_of t.lists.settled r.0 (list_all-has (has t.lists.settled) (row g.counted u) r.0 now r.1) in
    record {
      node = r.0;
      place = at.0;
      behind = slice_get-behind s.lists.settled ys at.0 r.0 (ap (λ xs. slice_get xs at.0) (sym grown) ∙ at.1) r.2;
      there = at.1;
      own = r.1;
    }

module _ (g : Prerequisites) (nodes : ℕ) (nodes_are : nodes ≡ length g.counted) where
  look_awaits : (k n : ℕ) (s : Standing) → IsStanding g nodes s → slice_get s.lists.settled k ≡ Some n → AwaitLooks g k s → AwaitLooks g (k + 1) (looked_at g n s)
  look_awaits k n s is at awaits u waits free = by (is_free g s u) refl
    where
      goes : has (freed g s n) u ≡ true → ⊥
      goes there = true≢false (sym waits ∙ all_gone_wait_not (is_doomed g s) (freed g s n) s u there)

      stays : has (freed g s n) u ≡ false
      stays = sure (has (freed g s n) u) refl
        where
          sure : (b : Bool) → has (freed g s n) u ≡ b → has (freed g s n) u ≡ false
          sure true e = absurd (goes e)
          sure false e = e

      waited : has s.lists.waiting u ≡ true
      waited = sym (has_from_times (looked_at g n s).lists.waiting s.lists.waiting u
          (times-all_gone_on_other (is_doomed g s) u (freed g s n) s Waiting (none_from_has (freed g s n) u stays))) ∙ waits

      grown : (looked_at g n s).lists.settled ≡ s.lists.settled ++ filter (is_doomed g s) (freed g s n)
      grown = (after_look g nodes s is n).settled

      below : u < length g.counted
      below = let lt = below_from_has nodes s.lists is.each_once Waiting u waited in omega arith

      would_go : is_free g s u ≡ true → has (row g.counted u) n ≡ true → has (freed g s n) u ≡ true
      would_go was own =
          has-filter (can_go_on g s) (users_of g n) u
          ∙ and_from (can_go_on g s u) (has (users_of g n) u) (and_from (has s.lists.waiting u) (is_free g s u) waited was)
          (has-filter (λ v. has (row g.counted v) n) (range_with_len 0 (length g.counted)) u
          ∙ and_from (has (row g.counted u) n) (has (range_with_len 0 (length g.counted)) u) own (in_nodes u (length g.counted) below))

      by : (b : Bool) → is_free g s u ≡ b → Lies g u (k + 1) (looked_at g n s).lists.settled
      by false was =
          let lies = newly_free g s (looked_at g n s) (filter (is_doomed g s) (freed g s n)) u grown was free in
          let within = slice_get_within s.lists.settled k n at in
          record { node = lies.node; place = lies.place; behind = (let h = lies.behind in omega arith); there = lies.there; own = lies.own }
      by true was =
          let lies = awaits u waited was in
          record {
            node = lies.node;
            place = lies.place;
            behind = ⊎_elim
                (λ (e : lies.place ≡ k). absurd (goes (would_go was (subst (λ m. has (row g.counted u) m ≡ true)
                (some_is lies.node n (sym lies.there ∙ ap (slice_get s.lists.settled) e ∙ at)) lies.own))))
                (λ ne. let h = lies.behind in apart k lies.place h ne) (cases_eq lies.place k);
            there = ap (λ xs. slice_get xs lies.place) grown ∙ slice_get-front s.lists.settled (filter (is_doomed g s) (freed g s n)) lies.place lies.node lies.there;
            own = lies.own;
          }
        where
          apart : (a b : ℕ) → a ≤ b → b ≢ a → a + 1 ≤ b
          apart a b le ne = ⊎_elim (λ lt. omega arith) (λ ge. absurd (ne (omega arith))) (cases_lt a b)

  -- what is true behind all looks
  pub record Looked (t : Standing) : Type 0 where
    pub standing : IsStanding g nodes t
    pub wait : WaitersWait g t

  pub all_looked_at : (k : ℕ) (s t : Standing) → LooksOn g k s t → IsStanding g nodes s → AwaitLooks g k s → Looked t
  all_looked_at k s t (LooksOn.all_looked e) is awaits = record { standing = is; wait = λ u waits. sure u waits (is_free g s u) refl }
    where
      sure : (u : ℕ) → has s.lists.waiting u ≡ true → (b : Bool) → is_free g s u ≡ b → is_free g s u ≡ false
      sure u waits true free =
          let lies = awaits u waits free in
          let within = slice_get_within s.lists.settled lies.place lies.node lies.there in
          let from = lies.behind in absurd (omega arith)
      sure u waits false free = free
  all_looked_at k s t (LooksOn.looks n at on) is awaits =
      all_looked_at (k + 1) (looked_at g n s) t on (after_look g nodes s is n).standing (look_awaits k n s is at awaits)

  -- a node settles
  module _ (s : Standing) (is : IsStanding g nodes s) (n : ℕ) (in_n : n < nodes) (fresh : has s.lists.settled n ≡ false) (end : End) where
    pub standing_ended : IsStanding g nodes (ended n end s)
    standing_ended = IsStanding-ended g nodes s is n in_n end fresh

    grown_by_it : (ended n end s).lists.settled ≡ s.lists.settled ++ n ∷ []
    grown_by_it = settled-ended g nodes s is n in_n end fresh

    ended_awaits : WaitersWait g s → AwaitLooks g (length s.lists.settled) (ended n end s)
    ended_awaits wait u waits free = ⊎_elim
        (λ (e : u ≡ n). absurd (true≢false (sym waits ∙ ap (has (ended n end s).lists.waiting) e ∙ has-moved_same n Settled s.lists Waiting)))
        (λ ne. newly_free g s (ended n end s) (n ∷ []) u grown_by_it (wait u (sym (has-moved_other u n Settled s.lists Waiting ne) ∙ waits)) free)
        (cases_eq u n)

    pub settled_looked : (t : Standing) → WaitersWait g s → Settles g n end s t → Looked t
    settled_looked t wait settles = all_looked_at (length s.lists.settled) (ended n end s) t settles standing_ended (ended_awaits wait)

  -- looks come to an end
  looks_from : (fuel k : ℕ) (s : Standing) → IsStanding g nodes s → k ≤ length s.lists.settled → nodes ≤ k + fuel → (t : Standing) × LooksOn g k s t
  looks_from zero k s is within enough =
      let most = length_within nodes s.lists is.each_once Settled in (s, LooksOn.all_looked (omega arith))
  looks_from (suc fuel) k s is within enough = by (λ t. looks_from fuel (k + 1) t) (cases_lt k (length s.lists.settled))
    where
      by : ((t : Standing) → IsStanding g nodes t → k + 1 ≤ length t.lists.settled → nodes ≤ (k + 1) + fuel → (u : Standing) × LooksOn g (k + 1) t u)
          → (k < length s.lists.settled) ⊎ (length s.lists.settled ≤ k) → (t : Standing) × LooksOn g k s t
      by go (inr past) = (s, LooksOn.all_looked (omega arith))
      by go (inl lt) =
          let n : ℕ = get_or s.lists.settled k 0 in
          let after = after_look g nodes s is n in
          let longer : length (looked_at g n s).lists.settled ≡ length s.lists.settled + length (filter (is_doomed g s) (freed g s n))
          = ap length after.settled ∙ length-append s.lists.settled (filter (is_doomed g s) (freed g s n)) in
          let rest = go (looked_at g n s) after.standing (omega arith) (omega arith) in
          (rest.0, LooksOn.looks n (slice_get-get_or s.lists.settled k 0 lt) rest.1)

  pub can_settle : (s : Standing) → IsStanding g nodes s → (n : ℕ) → n < nodes → has s.lists.settled n ≡ false → (end : End) → (t : Standing) × Settles g n end s t
  can_settle s is n in_n fresh end =
      let longer : length (ended n end s).lists.settled ≡ length s.lists.settled + 1
      = ap length (settled-ended g nodes s is n in_n end fresh) ∙ length-append s.lists.settled (n ∷ []) in
      looks_from nodes (length s.lists.settled) (ended n end s) (IsStanding-ended g nodes s is n in_n end fresh) (omega arith) (omega arith)
