-- What moves of nodes keep of where nodes stand.
use Rattle.std.proofs.Common.{◌≡◌, ◌≢◌, ℕ, zero, suc, ◌+◌, ◌<◌, ◌≤◌, Bool, true, false, cond, not, ◌||◌, eqb, nat_eq, nat_lt, List, [], ◌∷◌, ◌++◌, filter, Some, None, is_some, refl, sym, ap, ◌∙◌, subst, ⊎_elim, arith, eq-eqb, ne_eqb, lt-ltb, true≢false, append-nil, append_assoc, get_or-set_same, get_or-set_other, length-set}
use Rattle.std.proofs.lemmas.Bool.{cases_eq, cases_lt, and_parts, and_from, le-ltb}
use Rattle.std.proofs.lemmas.List.Folds.{list_any-append}
use Rattle.std.specs.List.{list_any, list_all}
use Rattle.mk_graph.specs.Edges.{row, has, times}
use Rattle.bd_places.specs.declared.end.End.{End}
use Rattle.bd_places.specs.declared.end.End.TheVariants.{Abandoned}
use Rattle.bd_links.specs.declared.stand.Stand.{Stand}
use Rattle.bd_links.specs.declared.stand.Stand.TheVariants.{Waiting, Ready, Running, Unflushed, Flushing, Settled}
use Rattle.bd_links.specs.SixLists.{SixLists, list_in, code, same_stand, without, moved, IsEachOnce}
use Rattle.bd_places.specs.Settling.{Prerequisites, Standing, end_of, is_free, is_under_way, ended, gone_on, all_gone_on, IsStanding}
use Rattle.bd_links.proofs.ListLemmas.{apart, times-cons, times-append, times-head, times-other, times-without_same, times-without_other, without-none}
use Rattle.bd_links.proofs.LinkedLemmas.{list_in-moved}
use Rattle.bd_places.proofs.TallyLemmas.{has-times, has-push}

-- ---- a node that has moved

pub times-moved_same : (n : ℕ) (to : Stand) (l : SixLists) (s : Stand) → times n (list_in (moved n to l) s) ≡ cond {A = ℕ} (same_stand to s) 1 0
times-moved_same n to l s =
    ap (times n) (list_in-moved n to l s) ∙ times-append n (without n (list_in l s)) (cond (same_stand to s) (n ∷ []) [])
    ∙ ap (λ k. k + times n (cond (same_stand to s) (n ∷ []) [])) (times-without_same n (list_in l s)) ∙ last (same_stand to s)
  where
    last : (b : Bool) → 0 + times n (cond b (n ∷ []) []) ≡ cond {A = ℕ} b 1 0
    last true = let h = times-head n [] in omega arith
    last false = omega arith

pub times-moved_other : (m n : ℕ) (to : Stand) (l : SixLists) (s : Stand) → m ≢ n → times m (list_in (moved n to l) s) ≡ times m (list_in l s)
times-moved_other m n to l s ne =
    ap (times m) (list_in-moved n to l s) ∙ times-append m (without n (list_in l s)) (cond (same_stand to s) (n ∷ []) [])
    ∙ ap (λ k. k + times m (cond (same_stand to s) (n ∷ []) [])) (times-without_other m n (list_in l s) ne) ∙ last (same_stand to s)
  where
    last : (b : Bool) → times m (list_in l s) + times m (cond b (n ∷ []) []) ≡ times m (list_in l s)
    last true = let h = times-other m n [] ne in omega arith
    last false = omega arith

pub has_from_times : (xs ys : List ℕ) (n : ℕ) → times n xs ≡ times n ys → has xs n ≡ has ys n
has_from_times xs ys n e = has-times xs n ∙ ap (λ k. not (eqb k 0)) e ∙ sym (has-times ys n)

pub has-moved_other : (m n : ℕ) (to : Stand) (l : SixLists) (s : Stand) → m ≢ n → has (list_in (moved n to l) s) m ≡ has (list_in l s) m
has-moved_other m n to l s ne = has_from_times (list_in (moved n to l) s) (list_in l s) m (times-moved_other m n to l s ne)

pub has-moved_same : (n : ℕ) (to : Stand) (l : SixLists) (s : Stand) → has (list_in (moved n to l) s) n ≡ same_stand to s
has-moved_same n to l s = has-times (list_in (moved n to l) s) n ∙ ap (λ k. not (eqb k 0)) (times-moved_same n to l s) ∙ by (same_stand to s)
  where
    by : (b : Bool) → not (eqb (cond {A = ℕ} b 1 0) 0) ≡ b
    by true = refl
    by false = refl

positive_test : (k : ℕ) → not (eqb (suc k) 0) ≡ true
positive_test k = ap not (ne_eqb (suc k) 0 (λ e. absurd (omega arith)))

pub none_from_has : (xs : List ℕ) (n : ℕ) → has xs n ≡ false → times n xs ≡ 0
none_from_has xs n h = by (times n xs) (sym (has-times xs n) ∙ h)
  where
    by : (k : ℕ) → not (eqb k 0) ≡ false → k ≡ 0
    by zero e = refl
    by (suc k) e = absurd (true≢false (sym (positive_test k) ∙ e))

pub has_from_positive : (xs : List ℕ) (n : ℕ) → 1 ≤ times n xs → has xs n ≡ true
has_from_positive xs n h = has-times xs n ∙ by (times n xs) h
  where
    by : (k : ℕ) → 1 ≤ k → not (eqb k 0) ≡ true
    by zero le = absurd (omega arith)
    by (suc k) le = positive_test k

pub positive_from_has : (xs : List ℕ) (n : ℕ) → has xs n ≡ true → 1 ≤ times n xs
positive_from_has xs n h = by (times n xs) (sym (has-times xs n) ∙ h)
  where
    by : (k : ℕ) → not (eqb k 0) ≡ true → 1 ≤ k
    by zero e = absurd (true≢false (sym e))
    by (suc k) e = omega arith

-- ---- each node in one list

total : (Stand → ℕ) → ℕ
total f = f Waiting + f Ready + f Running + f Unflushed + f Flushing + f Settled

total_split : (f : Stand → ℕ) (s : Stand) → total (λ u. cond (same_stand s u) 0 (f u)) + f s ≡ total f
unfolding total
total_split f Waiting = omega arith
total_split f Ready = omega arith
total_split f Running = omega arith
total_split f Unflushed = omega arith
total_split f Flushing = omega arith
total_split f Settled = omega arith

at_most_total : (f : Stand → ℕ) (s : Stand) → f s ≤ total f
unfolding total
at_most_total f Waiting = omega arith
at_most_total f Ready = omega arith
at_most_total f Running = omega arith
at_most_total f Unflushed = omega arith
at_most_total f Flushing = omega arith
at_most_total f Settled = omega arith

le_one : (b : Bool) → cond {A = ℕ} b 1 0 ≤ 1
le_one true = omega arith
le_one false = omega arith

module _ (nodes : ℕ) (l : SixLists) (once : IsEachOnce nodes l) where
  total_is : (n : ℕ) → total (λ s. times n (list_in l s)) ≡ cond {A = ℕ} (nat_lt n nodes) 1 0
  unfolding total
  total_is n = once n

  total_once : (n : ℕ) → total (λ s. times n (list_in l s)) ≤ 1
  total_once n = let h = total_is n in let k = le_one (nat_lt n nodes) in omega arith

  pub at_most_once : (s : Stand) (n : ℕ) → times n (list_in l s) ≤ 1
  at_most_once s n = let h = at_most_total (λ u. times n (list_in l u)) s in let k = total_once n in omega arith

  pub nowhere_else : (s t : Stand) (n : ℕ) → code s ≢ code t → has (list_in l s) n ≡ true → has (list_in l t) n ≡ false
  nowhere_else s t n ne there = has-times (list_in l t) n ∙ ap (λ k. not (eqb k 0)) none
    where
      none : times n (list_in l t) ≡ 0
      none =
          let split = total_split (λ u. times n (list_in l u)) s in
          let one = positive_from_has (list_in l s) n there in
          let all = total_once n in
          let part = at_most_total (λ u. cond (same_stand s u) 0 (times n (list_in l u))) t in
          let is : cond (same_stand s t) 0 (times n (list_in l t)) ≡ times n (list_in l t)
          = ap (λ b. cond b 0 (times n (list_in l t))) (ne_eqb (code s) (code t) ne) in
          omega arith

  pub below_from_has : (s : Stand) (n : ℕ) → has (list_in l s) n ≡ true → n < nodes
  below_from_has s n there = ⊎_elim (λ lt. lt) past (cases_lt n nodes)
    where
      past : nodes ≤ n → n < nodes
      past le =
          let is = total_is n in
          let none : cond {A = ℕ} (nat_lt n nodes) 1 0 ≡ 0 = ap (λ b. cond {A = ℕ} b 1 0) (le-ltb n nodes le) in
          let one = positive_from_has (list_in l s) n there in
          let part = at_most_total (λ u. times n (list_in l u)) s in
          absurd (omega arith)

  pub IsEachOnce-moved : (n : ℕ) (to : Stand) → n < nodes → IsEachOnce nodes (moved n to l)
  IsEachOnce-moved n to in_n m = ⊎_elim same other (cases_eq m n)
    where
      six : (t : Stand) → cond {A = ℕ} (same_stand t Waiting) 1 0 + cond {A = ℕ} (same_stand t Ready) 1 0 + cond {A = ℕ} (same_stand t Running) 1 0
          + cond {A = ℕ} (same_stand t Unflushed) 1 0 + cond {A = ℕ} (same_stand t Flushing) 1 0 + cond {A = ℕ} (same_stand t Settled) 1 0 ≡ 1
      six Waiting = refl
      six Ready = refl
      six Running = refl
      six Unflushed = refl
      six Flushing = refl
      six Settled = refl

      same : m ≡ n → times m (moved n to l).waiting + times m (moved n to l).ready + times m (moved n to l).running + times m (moved n to l).unflushed
          + times m (moved n to l).flushing + times m (moved n to l).settled ≡ cond {A = ℕ} (nat_lt m nodes) 1 0
      same e =
          subst (λ k. times k (moved n to l).waiting + times k (moved n to l).ready + times k (moved n to l).running + times k (moved n to l).unflushed
          + times k (moved n to l).flushing + times k (moved n to l).settled ≡ cond {A = ℕ} (nat_lt k nodes) 1 0) (sym e)
          (let a = times-moved_same n to l Waiting in let b = times-moved_same n to l Ready in let c = times-moved_same n to l Running in
          let d = times-moved_same n to l Unflushed in let f = times-moved_same n to l Flushing in let g = times-moved_same n to l Settled in
          let one = six to in
          let in_ : cond {A = ℕ} (nat_lt n nodes) 1 0 ≡ 1 = ap (λ b. cond {A = ℕ} b 1 0) (lt-ltb n nodes in_n) in
          omega arith)

      other : m ≢ n → times m (moved n to l).waiting + times m (moved n to l).ready + times m (moved n to l).running + times m (moved n to l).unflushed
          + times m (moved n to l).flushing + times m (moved n to l).settled ≡ cond {A = ℕ} (nat_lt m nodes) 1 0
      other ne =
          let a = times-moved_other m n to l Waiting ne in let b = times-moved_other m n to l Ready ne in let c = times-moved_other m n to l Running ne in
          let d = times-moved_other m n to l Unflushed ne in let f = times-moved_other m n to l Flushing ne in let g = times-moved_other m n to l Settled ne in
          let was = once m in
          omega arith

-- ---- what is free stays free

all_wider : (p q : ℕ → Bool) (xs : List ℕ) → ((n : ℕ) → p n ≡ true → q n ≡ true) → list_all p xs ≡ true → list_all q xs ≡ true
all_wider p q [] wider all = refl
all_wider p q (x ∷ xs) wider all =
    let h = and_parts (p x) (list_all p xs) all in and_from (q x) (list_all q xs) (wider x h.0) (all_wider p q xs wider h.1)

pub free_wider : (g : Prerequisites) (s t : Standing) (n : ℕ) → ((m : ℕ) → has s.lists.settled m ≡ true → has t.lists.settled m ≡ true)
    → is_free g s n ≡ true → is_free g t n ≡ true
free_wider g s t n wider = all_wider (has s.lists.settled) (has t.lists.settled) (row g.counted n) wider

-- ---- a node settles

module _ (g : Prerequisites) (nodes : ℕ) (s : Standing) (is : IsStanding g nodes s) (n : ℕ) (in_n : n < nodes) where
  pub settled-ended : (end : End) → has s.lists.settled n ≡ false → (ended n end s).lists.settled ≡ s.lists.settled ++ n ∷ []
  settled-ended end fresh = ap (λ xs. xs ++ n ∷ []) (without-none n s.lists.settled (none_from_has s.lists.settled n fresh))

  settled_wider : (end : End) → has s.lists.settled n ≡ false → (m : ℕ) → has s.lists.settled m ≡ true → has (ended n end s).lists.settled m ≡ true
  settled_wider end fresh m there =
      ap (λ xs. has xs m) (settled-ended end fresh) ∙ has-push s.lists.settled n m ∙ ap (λ b. b || nat_eq m n) there

  pub end_of-ended_other : (end : End) (m : ℕ) → m ≢ n → end_of (ended n end s) m ≡ end_of s m
  end_of-ended_other end m ne = get_or-set_other s.ends n m (Some end) None ne

  pub end_of-ended_same : (end : End) → end_of (ended n end s) n ≡ Some end
  end_of-ended_same end = get_or-set_same s.ends n (Some end) None (let h = is.ends_nodes in omega arith)

  pub IsStanding-ended : (end : End) → has s.lists.settled n ≡ false → IsStanding g nodes (ended n end s)
  IsStanding-ended end fresh = record {
    each_once = IsEachOnce-moved nodes s.lists is.each_once n Settled in_n;
    ends_nodes = length-set s.ends n (Some end) ∙ is.ends_nodes;
    ended = λ m. ⊎_elim
        (λ e. subst (λ k. is_some (end_of (ended n end s) k) ≡ has (moved n Settled s.lists).settled k) (sym e)
        (ap is_some (end_of-ended_same end) ∙ sym (has-moved_same n Settled s.lists Settled)))
        (λ ne. ap is_some (end_of-ended_other end m ne) ∙ is.ended m ∙ sym (has-moved_other m n Settled s.lists Settled ne)) (cases_eq m n);
    free = λ stand m under there. ⊎_elim
        (λ e. absurd (settled_is_not stand under (subst (λ k. has (list_in (moved n Settled s.lists) stand) k ≡ true) e there)))
        (λ ne. free_wider g s (ended n end s) m (settled_wider end fresh) (is.free stand m under (sym (has-moved_other m n Settled s.lists stand ne) ∙ there)))
        (cases_eq m n);
  }
    where
      settled_is_not : (stand : Stand) → is_under_way stand ≡ true → has (list_in (moved n Settled s.lists) stand) n ≡ true → ⊥
      settled_is_not stand under there = by stand under (sym (has-moved_same n Settled s.lists stand) ∙ there)
        where
          by : (stand : Stand) → is_under_way stand ≡ true → same_stand Settled stand ≡ true → ⊥
          by Waiting under e = true≢false (sym under)
          by Ready under e = true≢false (sym e)
          by Running under e = true≢false (sym e)
          by Unflushed under e = true≢false (sym e)
          by Flushing under e = true≢false (sym e)
          by Settled under e = true≢false (sym under)

  -- a node that isn't settled, and waits for nothing, goes to another list
  pub IsStanding-moved : (to : Stand) → has s.lists.settled n ≡ false → code to ≢ 5 → is_free g s n ≡ true → IsStanding g nodes (record s { lists = moved n to s.lists })
  IsStanding-moved to fresh elsewhere free = record {
    each_once = IsEachOnce-moved nodes s.lists is.each_once n to in_n;
    ends_nodes = is.ends_nodes;
    ended = λ m. is.ended m ∙ sym (settled_same m);
    free = λ stand m under there. ⊎_elim
        (λ e. subst (λ k. is_free g (record s { lists = moved n to s.lists }) k ≡ true) (sym e) (still n free))
        (λ ne. still m (is.free stand m under (sym (has-moved_other m n to s.lists stand ne) ∙ there))) (cases_eq m n);
  }
    where
      settled_same : (m : ℕ) → has (moved n to s.lists).settled m ≡ has s.lists.settled m
      settled_same m = ⊎_elim
          (λ e. subst (λ k. has (moved n to s.lists).settled k ≡ has s.lists.settled k) (sym e)
          (has-moved_same n to s.lists Settled ∙ ne_eqb (code to) 5 elsewhere ∙ sym fresh))
          (λ ne. has-moved_other m n to s.lists Settled ne) (cases_eq m n)

      still : (m : ℕ) → is_free g s m ≡ true → is_free g (record s { lists = moved n to s.lists }) m ≡ true
      still m = free_wider g s (record s { lists = moved n to s.lists }) m (λ k there. settled_same k ∙ there)

-- ---- nodes go on, one after the other

pub all_gone_on-append : (d : ℕ → Bool) (xs ys : List ℕ) (s : Standing) → all_gone_on d (xs ++ ys) s ≡ all_gone_on d ys (all_gone_on d xs s)
all_gone_on-append d [] ys s = refl
all_gone_on-append d (x ∷ xs) ys s = all_gone_on-append d xs ys (gone_on (d x) x s)

-- a node that isn't among them stays where it is
pub times-gone_on_other : (b : Bool) (m n : ℕ) (s : Standing) (stand : Stand) → m ≢ n → times m (list_in (gone_on b n s).lists stand) ≡ times m (list_in s.lists stand)
times-gone_on_other true m n s stand ne = times-moved_other m n Settled s.lists stand ne
times-gone_on_other false m n s stand ne = times-moved_other m n Ready s.lists stand ne

pub times-all_gone_on_other : (d : ℕ → Bool) (m : ℕ) (xs : List ℕ) (s : Standing) (stand : Stand) → times m xs ≡ 0
    → times m (list_in (all_gone_on d xs s).lists stand) ≡ times m (list_in s.lists stand)
times-all_gone_on_other d m [] s stand none = refl
times-all_gone_on_other d m (x ∷ xs) s stand none =
    let h = apart m x xs none in
    times-all_gone_on_other d m xs (gone_on (d x) x s) stand h.1 ∙ times-gone_on_other (d x) m x s stand h.0

-- what is true once waiting nodes that are free have gone on
pub record Goes (g : Prerequisites) (nodes : ℕ) (doomed : ℕ → Bool) (xs : List ℕ) (s t : Standing) : Type 0 where
  pub standing : IsStanding g nodes t
  pub settled : t.lists.settled ≡ s.lists.settled ++ filter doomed xs
  pub ends : (m : ℕ) → times m xs ≡ 0 → end_of t m ≡ end_of s m

module _ (g : Prerequisites) (nodes : ℕ) where
  settled-gone_on : (b : Bool) (s : Standing) → IsStanding g nodes s → (n : ℕ) → n < nodes → has s.lists.settled n ≡ false
      → (gone_on b n s).lists.settled ≡ s.lists.settled ++ cond b (n ∷ []) []
  settled-gone_on true s is n in_n fresh = settled-ended g nodes s is n in_n Abandoned fresh
  settled-gone_on false s is n in_n fresh = ap (λ xs. xs ++ []) (without-none n s.lists.settled (none_from_has s.lists.settled n fresh))

  IsStanding-gone_on : (b : Bool) (s : Standing) → IsStanding g nodes s → (n : ℕ) → n < nodes → has s.lists.settled n ≡ false → is_free g s n ≡ true
      → IsStanding g nodes (gone_on b n s)
  IsStanding-gone_on true s is n in_n fresh free = IsStanding-ended g nodes s is n in_n Abandoned fresh
  IsStanding-gone_on false s is n in_n fresh free = IsStanding-moved g nodes s is n in_n Ready fresh (λ e. absurd (omega arith)) free

  end_of-gone_on_other : (b : Bool) (s : Standing) → IsStanding g nodes s → (m n : ℕ) → n < nodes → m ≢ n → end_of (gone_on b n s) m ≡ end_of s m
  end_of-gone_on_other true s is m n in_n ne = end_of-ended_other g nodes s is n in_n Abandoned m ne
  end_of-gone_on_other false s is m n in_n ne = refl

  filter-head : (d : ℕ → Bool) (x : ℕ) (xs : List ℕ) → cond (d x) (x ∷ []) [] ++ filter d xs ≡ filter d (x ∷ xs)
  filter-head d x xs = by (d x)
    where
      by : (b : Bool) → cond b (x ∷ []) [] ++ filter d xs ≡ cond b (x ∷ filter d xs) (filter d xs)
      by true = refl
      by false = refl

  pub goes : (d : ℕ → Bool) (xs : List ℕ) (s : Standing) → IsStanding g nodes s → ((m : ℕ) → has xs m ≡ true → has s.lists.waiting m ≡ true)
      → ((m : ℕ) → has xs m ≡ true → is_free g s m ≡ true) → ((m : ℕ) → times m xs ≤ 1) → Goes g nodes d xs s (all_gone_on d xs s)
  goes d [] s is wait free once = record { standing = is; settled = sym (append-nil s.lists.settled); ends = λ m none. refl }
  goes d (x ∷ xs) s is wait free once =
      let rest = goes d xs (gone_on (d x) x s) next still_wait still_free (λ m. let h = once m in let k = times-cons m x xs in omega arith) in
      record {
        standing = rest.standing;
        settled = rest.settled ∙ ap (λ ys. ys ++ filter d xs) grown
            ∙ append_assoc s.lists.settled (cond (d x) (x ∷ []) []) (filter d xs) ∙ ap (λ ys. s.lists.settled ++ ys) (filter-head d x xs);
        ends = λ m none. let h = apart m x xs none in rest.ends m h.1 ∙ end_of-gone_on_other (d x) s is m x in_x h.0;
      }
    where
      x_in : has (x ∷ xs) x ≡ true
      x_in = ap (λ b. b || has xs x) (eq-eqb x x refl)

      in_x : x < nodes
      in_x = below_from_has nodes s.lists is.each_once Waiting x (wait x x_in)

      fresh : has s.lists.settled x ≡ false
      fresh = nowhere_else nodes s.lists is.each_once Waiting Settled x (λ e. absurd (omega arith)) (wait x x_in)

      grown : (gone_on (d x) x s).lists.settled ≡ s.lists.settled ++ cond (d x) (x ∷ []) []
      grown = settled-gone_on (d x) s is x in_x fresh

      next : IsStanding g nodes (gone_on (d x) x s)
      next = IsStanding-gone_on (d x) s is x in_x fresh (free x x_in)

      others : (m : ℕ) → has xs m ≡ true → m ≢ x
      others m there e =
          let twice = once x in
          let head = times-head x xs in
          let one = positive_from_has xs x (subst (λ k. has xs k ≡ true) e there) in
          absurd (omega arith)

      or_true : (b : Bool) → (b || true) ≡ true
      or_true true = refl
      or_true false = refl

      behind : (m : ℕ) → has xs m ≡ true → has (x ∷ xs) m ≡ true
      behind m there = ap (λ b. nat_eq m x || b) there ∙ or_true (nat_eq m x)

      still_wait : (m : ℕ) → has xs m ≡ true → has (gone_on (d x) x s).lists.waiting m ≡ true
      still_wait m there =
          has_from_times (gone_on (d x) x s).lists.waiting s.lists.waiting m (times-gone_on_other (d x) m x s Waiting (others m there)) ∙ wait m (behind m there)

      still_free : (m : ℕ) → has xs m ≡ true → is_free g (gone_on (d x) x s) m ≡ true
      still_free m there =
          free_wider g s (gone_on (d x) x s) m
          (λ k in_settled. ap (λ ys. has ys k) grown ∙ list_any-append (nat_eq k) s.lists.settled (cond (d x) (x ∷ []) [])
          ∙ ap (λ b. b || list_any (nat_eq k) (cond (d x) (x ∷ []) [])) in_settled)
          (free m (behind m there))
