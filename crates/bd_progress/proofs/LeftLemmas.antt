-- What a move of a node takes from what is left, and what the looks behind it don't add.
use Rattle.std.proofs.Common.{◌≡◌, ◌≢◌, ◌⊎◌, ℕ, ◌+◌, ◌≤◌, Bool, true, false, cond, ◌||◌, nat_eq, List, [], ◌∷◌, length, refl, sym, ap, ◌∙◌, subst, inl, inr, ⊎_elim, arith, eq-eqb, ne_eqb, true≢false}
use Rattle.std.specs.Prelude.{sum_by}
use Rattle.std.proofs.lemmas.Bool.{cases_eq, cases_lt, and_parts}
use Rattle.std.proofs.lemmas.List.Sums.{sum_by-cons, sum_by-append}
use Rattle.std.specs.List.{range_with_len}
use Rattle.mk_graph.specs.Edges.{row, has, times}
use Rattle.bd_links.specs.declared.stand.Stand.{Stand}
use Rattle.bd_links.specs.declared.stand.Stand.TheVariants.{Waiting, Ready, Running, Unflushed, Flushing, Settled}
use Rattle.bd_links.specs.SixLists.{SixLists, list_in, code, same_stand, without, moved, joined, IsEachOnce}
use Rattle.bd_links.proofs.ListLemmas.{times-cons, times-head, times-other, without-head, without-other, without-none}
use Rattle.bd_links.proofs.LinkedLemmas.{list_in-moved, same_from_code}
use Rattle.bd_links.proofs.FirstLemmas.{in_range, past_range}
use Rattle.bd_places.specs.Placed.{holds_any}
use Rattle.bd_places.specs.Settling.{Prerequisites, Standing, is_free, is_doomed, can_go_on, users_of, gone_on, all_gone_on, looked_at, LooksOn, IsStanding}
use Rattle.bd_places.proofs.UserLemmas.{has-filter}
use Rattle.bd_places.proofs.SettleLemmas.{times-filter, after_look, freed}
use Rattle.bd_places.proofs.StandingLemmas.{has_from_times, times-gone_on_other, positive_from_has, none_from_has, at_most_once, nowhere_else, below_from_has, IsEachOnce-moved}

-- the sum over the six lists
abbrev pub six : (Stand → ℕ) → ℕ
six f = f Waiting + f Ready + f Running + f Unflushed + f Flushing + f Settled

-- of what each node weighs in its list
abbrev pub weight : (Stand → ℕ → ℕ) → SixLists → ℕ
weight f l = six (λ s. sum_by (f s) (list_in l s))

-- ---- one list

sum-none : (f : ℕ → ℕ) → sum_by f [] ≡ 0
sum-none f = refl

sum-without : (f : ℕ → ℕ) (n : ℕ) (xs : List ℕ) → times n xs ≡ 1 → sum_by f (without n xs) + f n ≡ sum_by f xs
sum-without f n [] once = absurd (omega (arith, once))
sum-without f n (x ∷ xs) once = by (sum-without f n xs) (cases_eq n x)
  where
    by : (times n xs ≡ 1 → sum_by f (without n xs) + f n ≡ sum_by f xs) → (n ≡ x) ⊎ (n ≢ x) → sum_by f (without n (x ∷ xs)) + f n ≡ sum_by f (x ∷ xs)
    by rest (inl e) =
        subst (λ k. sum_by f (without n (k ∷ xs)) + f n ≡ sum_by f (k ∷ xs)) e
        (let head : times n (n ∷ xs) ≡ 1 = subst (λ k. times n (k ∷ xs) ≡ 1) (sym e) once in
        let more = times-head n xs in
        let none : times n xs ≡ 0 = omega arith in
        let same : sum_by f (without n (n ∷ xs)) ≡ sum_by f xs = ap (sum_by f) (without-head n xs ∙ without-none n xs none) in
        let whole = sum_by-cons f n xs in
        omega arith)
    by rest (inr ne) =
        let other = times-other n x xs ne in
        let inner = rest (omega arith) in
        let same : sum_by f (without n (x ∷ xs)) ≡ sum_by f (x ∷ without n xs) = ap (sum_by f) (without-other n x xs ne) in
        let a = sum_by-cons f x (without n xs) in
        let b = sum_by-cons f x xs in
        omega arith

-- weights that differ at the node alone
sum-alike : (f h : ℕ → ℕ) (n : ℕ) → ((m : ℕ) → m ≢ n → f m ≡ h m) → (xs : List ℕ) → sum_by f (without n xs) ≡ sum_by h (without n xs)
sum-alike f h n alike [] = refl
sum-alike f h n alike (x ∷ xs) = by (sum-alike f h n alike xs) (cases_eq n x)
  where
    by : sum_by f (without n xs) ≡ sum_by h (without n xs) → (n ≡ x) ⊎ (n ≢ x) → sum_by f (without n (x ∷ xs)) ≡ sum_by h (without n (x ∷ xs))
    by rest (inl e) =
        subst (λ k. sum_by f (without n (k ∷ xs)) ≡ sum_by h (without n (k ∷ xs))) e
        (ap (sum_by f) (without-head n xs) ∙ rest ∙ sym (ap (sum_by h) (without-head n xs)))
    by rest (inr ne) =
        let here = alike x (λ e. ne (sym e)) in
        let a : sum_by f (without n (x ∷ xs)) ≡ f x + sum_by f (without n xs) = ap (sum_by f) (without-other n x xs ne) ∙ sum_by-cons f x (without n xs) in
        let b : sum_by h (without n (x ∷ xs)) ≡ h x + sum_by h (without n xs) = ap (sum_by h) (without-other n x xs ne) ∙ sum_by-cons h x (without n xs) in
        omega arith

-- ---- a node goes to another list

-- what the node adds to a list that it is in
abbrev at : (here : Bool) → ℕ → ℕ
at here k = cond here k 0

six_at : (f : Stand → ℕ) (stand : Stand) → six (λ s. at (same_stand stand s) (f s)) ≡ f stand
six_at f Waiting = omega arith
six_at f Ready = omega arith
six_at f Running = omega arith
six_at f Unflushed = omega arith
six_at f Flushing = omega arith
six_at f Settled = omega arith

module _ (nodes : ℕ) (l : SixLists) (once : IsEachOnce nodes l) (n : ℕ) (from : Stand) (there : has (list_in l from) n ≡ true) where
  in_its_list : times n (list_in l from) ≡ 1
  in_its_list = let a = at_most_once nodes l once from n in let b = positive_from_has (list_in l from) n there in omega arith

  code_apart : (s : Stand) → same_stand from s ≡ false → code from ≢ code s
  code_apart s e same = true≢false (sym (eq-eqb (code from) (code s) same) ∙ e)

  in_no_other : (s : Stand) → same_stand from s ≡ false → times n (list_in l s) ≡ 0
  in_no_other s e = none_from_has (list_in l s) n (nowhere_else nodes l once from s n (code_apart s e) there)

  module _ (f h : Stand → ℕ → ℕ) (alike : (s : Stand) (m : ℕ) → m ≢ n → f s m ≡ h s m) (to : Stand) where
    without_it : (s : Stand) → sum_by (h s) (without n (list_in l s)) + at (same_stand from s) (f s n) ≡ sum_by (f s) (list_in l s)
    without_it s = by (same_stand from s) refl
      where
        same : sum_by (f s) (without n (list_in l s)) ≡ sum_by (h s) (without n (list_in l s))
        same = sum-alike (f s) (h s) n (alike s) (list_in l s)

        by : (b : Bool) → same_stand from s ≡ b → sum_by (h s) (without n (list_in l s)) + at b (f s n) ≡ sum_by (f s) (list_in l s)
        by true e =
            let here : times n (list_in l s) ≡ 1 = subst (λ r. times n (list_in l r) ≡ 1) (same_from_code from s (same_code e)) in_its_list in
            let part = sum-without (f s) n (list_in l s) here in
            let like = same in
            omega arith
          where
            same_code : same_stand from s ≡ true → code from ≡ code s
            same_code t = ⊎_elim (λ k. k) (λ ne. absurd (true≢false (sym t ∙ ne_eqb (code from) (code s) ne))) (cases_eq (code from) (code s))
        by false e =
            let none : sum_by (f s) (without n (list_in l s)) ≡ sum_by (f s) (list_in l s) = ap (sum_by (f s)) (without-none n (list_in l s) (in_no_other s e)) in
            let like = same in
            omega arith

    each_list : (s : Stand) → sum_by (h s) (list_in (moved n to l) s) + at (same_stand from s) (f s n) ≡ sum_by (f s) (list_in l s) + at (same_stand to s) (h s n)
    each_list s =
        let parts : sum_by (h s) (list_in (moved n to l) s) ≡ sum_by (h s) (without n (list_in l s)) + sum_by (h s) (cond (same_stand to s) (n ∷ []) [])
        = ap (sum_by (h s)) (list_in-moved n to l s) ∙ sum_by-append (h s) (without n (list_in l s)) (cond (same_stand to s) (n ∷ []) []) in
        let last = by (same_stand to s) in
        let rest = without_it s in
        omega arith
      where
        by : (b : Bool) → sum_by (h s) (cond b (n ∷ []) []) ≡ at b (h s n)
        by true = let one = sum_by-cons (h s) n [] in omega arith
        by false = refl

    -- what it weighed there goes, and what it weighs in its new list comes
    pub weight-moved : weight h (moved n to l) + f from n ≡ weight f l + h to n
    weight-moved =
        let a = each_list Waiting in let b = each_list Ready in let c = each_list Running in
        let d = each_list Unflushed in let e = each_list Flushing in let g = each_list Settled in
        let gone = six_at (λ s. f s n) from in
        let come = six_at (λ s. h s n) to in
        omega arith

-- ---- all of Unflushed goes to Flushing

sum-one_less : (f h : ℕ → ℕ) → ((m : ℕ) → f m ≡ h m + 1) → (xs : List ℕ) → sum_by f xs ≡ sum_by h xs + length xs
sum-one_less f h more [] = omega arith
sum-one_less f h more (x ∷ xs) =
    let rest = sum-one_less f h more xs in let here = more x in let a = sum_by-cons f x xs in let b = sum_by-cons h x xs in omega arith

pub weight-joined : (f : Stand → ℕ → ℕ) (l : SixLists) → ((m : ℕ) → f Unflushed m ≡ f Flushing m + 1) → weight f (joined l) + length l.unflushed ≡ weight f l
weight-joined f l more =
    let both = sum_by-append (f Flushing) l.flushing l.unflushed in
    let less = sum-one_less (f Unflushed) (f Flushing) more l.unflushed in
    let none = sum-none (f Unflushed) in
    omega arith

pub some_is_there : (xs : List ℕ) → holds_any xs ≡ true → 1 ≤ length xs
some_is_there [] e = absurd (true≢false (sym e))
some_is_there (x ∷ xs) e = omega arith

-- ---- looks add nothing

-- those that a look lets go on waited, and each goes on once
module _ (g : Prerequisites) where
  pub freed_wait : (s : Standing) (n m : ℕ) → has (freed g s n) m ≡ true → has s.lists.waiting m ≡ true
  freed_wait s n m there =
      let h = and_parts (can_go_on g s m) (has (users_of g n) m) (sym (has-filter (can_go_on g s) (users_of g n) m) ∙ there) in
      (and_parts (has s.lists.waiting m) (is_free g s m) h.0).0

  range_once : (m n : ℕ) → times m (range_with_len 0 n) ≤ 1
  range_once m n = ⊎_elim (λ lt. let h = in_range m 0 n (omega arith) (omega arith) in omega arith) (λ le. let h = past_range m 0 n (omega arith) in omega arith) (cases_lt m n)

  pub freed_once : (s : Standing) (n m : ℕ) → times m (freed g s n) ≤ 1
  freed_once s n m =
      let a = times-filter (can_go_on g s) (users_of g n) m in
      let b = times-filter (λ u. has (row g.counted u) n) (range_with_len 0 (length g.counted)) m in
      let c = range_once m (length g.counted) in
      omega arith

-- what a node that goes on weighs is no more than before
pub record AreLight (f : Stand → ℕ → ℕ) : Type 0 where
  pub ready : (m : ℕ) → f Ready m ≤ f Waiting m
  pub settled : (m : ℕ) → f Settled m ≡ 0

module _ (f : Stand → ℕ → ℕ) (light : AreLight f) (nodes : ℕ) where
  weight-gone : (b : Bool) (n : ℕ) (s : Standing) → IsEachOnce nodes s.lists → has s.lists.waiting n ≡ true
      → (weight f (gone_on b n s).lists ≤ weight f s.lists) × IsEachOnce nodes (gone_on b n s).lists
  weight-gone true n s once waits =
      let goes = weight-moved nodes s.lists once n Waiting waits f f (λ r m ne. refl) Settled in
      let none = light.settled n in
      (omega arith, IsEachOnce-moved nodes s.lists once n Settled (below_from_has nodes s.lists once Waiting n waits))
  weight-gone false n s once waits =
      let goes = weight-moved nodes s.lists once n Waiting waits f f (λ r m ne. refl) Ready in
      let less = light.ready n in
      (omega arith, IsEachOnce-moved nodes s.lists once n Ready (below_from_has nodes s.lists once Waiting n waits))

  or_true : (b : Bool) → (b || true) ≡ true
  or_true true = refl
  or_true false = refl

  weight-all_gone : (d : ℕ → Bool) (xs : List ℕ) (s : Standing) → IsEachOnce nodes s.lists → ((m : ℕ) → has xs m ≡ true → has s.lists.waiting m ≡ true)
      → ((m : ℕ) → times m xs ≤ 1) → weight f (all_gone_on d xs s).lists ≤ weight f s.lists
  weight-all_gone d [] s once waits single = omega arith
  weight-all_gone d (x ∷ xs) s once waits single =
      let first = weight-gone (d x) x s once (waits x (ap (λ b. b || has xs x) (eq-eqb x x refl))) in
      let rest = weight-all_gone d xs (gone_on (d x) x s) first.1 still (λ m. let h = single m in let k = times-cons m x xs in omega arith) in
      let here = first.0 in
      omega arith
    where
      apart : (m : ℕ) → has xs m ≡ true → m ≢ x
      apart m there e =
          let twice = single x in
          let head = times-head x xs in
          let one = positive_from_has xs x (subst (λ k. has xs k ≡ true) e there) in
          absurd (omega arith)

      still : (m : ℕ) → has xs m ≡ true → has (gone_on (d x) x s).lists.waiting m ≡ true
      still m there =
          has_from_times (gone_on (d x) x s).lists.waiting s.lists.waiting m (times-gone_on_other (d x) m x s Waiting (apart m there))
          ∙ waits m (ap (λ b. nat_eq m x || b) there ∙ or_true (nat_eq m x))

  pub weight-looks : (g : Prerequisites) (k : ℕ) (s t : Standing) → LooksOn g k s t → IsStanding g nodes s → weight f t.lists ≤ weight f s.lists
  weight-looks g k s t (LooksOn.all_looked e) is = omega arith
  weight-looks g k s t (LooksOn.looks n at_k on) is =
      let first = weight-all_gone (is_doomed g s) (freed g s n) s is.each_once (freed_wait g s n) (freed_once g s n) in
      let rest = weight-looks g (k + 1) (looked_at g n s) t on (after_look g nodes s is n).standing in
      omega arith
