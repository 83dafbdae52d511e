-- Lists that links spell: what they are, and what the moves do to them.
use Rattle.std.proofs.Common.{◌≡◌, ◌≢◌, ℕ, zero, suc, ◌+◌, ◌<◌, ◌≤◌, Bool, true, false, cond, ◌&&◌, nat_lt, List, [], ◌∷◌, ◌++◌, length, slice_get, Some, None, refl, sym, ap, ◌∙◌, subst, ⊎_elim, ◌⊎◌, inl, inr, arith, eq-eqb, ne_eqb, lt-ltb, ltb-true, append-nil}
use Rattle.std.proofs.lemmas.Bool.{cases_eq, cases_lt}
use Rattle.bd_links.specs.declared.stand.Stand.{Stand}
use Rattle.bd_links.specs.declared.stand.Stand.TheVariants.{Waiting, Ready, Running, Unflushed, Flushing, Settled}
use Rattle.bd_links.specs.Ring.{IsRing, Leads}
use Rattle.mk_graph.specs.Edges.{times}
use Rattle.bd_links.specs.SixLists.{SixLists, list_in, code, same_stand, without, after_move, moved, joined, IsEachOnce}
use Rattle.bd_links.specs.Linked.{met, behind, linked_lists, IsLinked}
use Rattle.bd_links.proofs.ListLemmas.{times-cons, times-append, times-head, times-other, apart, without-head, without-other, without-none, times-without_same, times-without_other, without-append}
use Rattle.bd_links.proofs.RingLemmas.{Unlinks, Splices, IsRing-unlink, IsRing-splice, Leads-unlink, Leads-splice, Leads-splice_other}

-- ---- the six lists by their codes

pub code_below : (s : Stand) → code s < 6
code_below Waiting = omega arith
code_below Ready = omega arith
code_below Running = omega arith
code_below Unflushed = omega arith
code_below Flushing = omega arith
code_below Settled = omega arith

decoded : ℕ → Stand
decoded zero = Waiting
decoded (suc zero) = Ready
decoded (suc (suc zero)) = Running
decoded (suc (suc (suc zero))) = Unflushed
decoded (suc (suc (suc (suc zero)))) = Flushing
decoded (suc (suc (suc (suc (suc n))))) = Settled

decoded-code : (s : Stand) → decoded (code s) ≡ s
unfolding decoded
decoded-code Waiting = refl
decoded-code Ready = refl
decoded-code Running = refl
decoded-code Unflushed = refl
decoded-code Flushing = refl
decoded-code Settled = refl

pub same_from_code : (a b : Stand) → code a ≡ code b → a ≡ b
same_from_code a b e = sym (decoded-code a) ∙ ap decoded e ∙ decoded-code b

-- equal lists
pub same_lists : (k l : SixLists) → ((s : Stand) → list_in k s ≡ list_in l s) → k ≡ l
same_lists k l e = λ i. record {
  waiting = e Waiting i;
  ready = e Ready i;
  running = e Running i;
  unflushed = e Unflushed i;
  flushing = e Flushing i;
  settled = e Settled i;
}

pub list_in-moved : (p : ℕ) (to : Stand) (l : SixLists) (s : Stand) → list_in (moved p to l) s ≡ after_move p to l s
list_in-moved p to l Waiting = refl
list_in-moved p to l Ready = refl
list_in-moved p to l Running = refl
list_in-moved p to l Unflushed = refl
list_in-moved p to l Flushing = refl
list_in-moved p to l Settled = refl

-- ---- a list is as long as there are nodes at most

length-without : (n : ℕ) (xs : List ℕ) → length xs ≡ length (without n xs) + times n xs
length-without n [] = refl
length-without n (x ∷ xs) = ⊎_elim (same (length-without n xs)) (other (length-without n xs)) (cases_eq n x)
  where
    same : length xs ≡ length (without n xs) + times n xs → n ≡ x → length (x ∷ xs) ≡ length (without n (x ∷ xs)) + times n (x ∷ xs)
    same rest e = subst (λ y. length (y ∷ xs) ≡ length (without n (y ∷ xs)) + times n (y ∷ xs)) e
        (rw (without-head n xs, times-head n xs) (omega arith))

    other : length xs ≡ length (without n xs) + times n xs → n ≢ x → length (x ∷ xs) ≡ length (without n (x ∷ xs)) + times n (x ∷ xs)
    other rest ne = rw (without-other n x xs ne, times-other n x xs ne) (omega arith)

pub length_bound : (n : ℕ) (xs : List ℕ) → ((m : ℕ) → times m xs ≤ 1) → ((m : ℕ) → n ≤ m → times m xs ≡ 0) → length xs ≤ n
length_bound zero [] once below = omega arith
length_bound zero (x ∷ xs) once below = let h = times-head x xs in let none = below x (omega arith) in absurd (omega arith)
length_bound (suc n) xs once below =
    let rest = length_bound n (without n xs) less less_below in
    let l = length-without n xs in
    let one = once n in
    omega arith
  where
    less : (m : ℕ) → times m (without n xs) ≤ 1
    less m = ⊎_elim (λ e. let h : times m (without n xs) ≡ 0 = subst (λ k. times k (without n xs) ≡ 0) (sym e) (times-without_same n xs) in omega arith)
        (λ ne. let h = times-without_other m n xs ne in let one = once m in omega arith) (cases_eq m n)

    less_below : (m : ℕ) → n ≤ m → times m (without n xs) ≡ 0
    less_below m le = ⊎_elim (λ e. subst (λ k. times k (without n xs) ≡ 0) (sym e) (times-without_same n xs))
        (λ ne. times-without_other m n xs ne ∙ below m (omega arith)) (cases_eq m n)

cond_le : (b : Bool) → cond {A = ℕ} b 1 0 ≤ 1
cond_le true = omega arith
cond_le false = omega arith

past_test : (m n : ℕ) → n ≤ m → nat_lt m n ≡ false
past_test m n le = by (nat_lt m n) refl
  where
    by : (a : Bool) → nat_lt m n ≡ a → nat_lt m n ≡ false
    by true e = let lt = ltb-true m n e in absurd (omega arith)
    by false e = e

past_none : (b : Bool) (m n : ℕ) → n ≤ m → cond {A = ℕ} (nat_lt m n && b) 1 0 ≡ 0
past_none b m n le = ap (λ a. cond {A = ℕ} (a && b) 1 0) (past_test m n le)

-- the rest of a path
Leads-behind : (f : ℕ → ℕ) (from z n : ℕ) (before behind : List ℕ) → Leads f from (before ++ n ∷ behind) z → Leads f n behind z
Leads-behind f from z n [] behind path = path.1
Leads-behind f from z n (x ∷ before) behind path = Leads-behind f x z n before behind path.1

-- ---- the lists that links spell

module _ (f b : ℕ → ℕ) (stand : ℕ → Stand) (nodes : ℕ) (l : SixLists) (linked : IsLinked f b stand nodes l) where
  pub at_most_once : (s : Stand) (m : ℕ) → times m (list_in l s) ≤ 1
  at_most_once s m = let h = linked.once s m in let k = cond_le (nat_lt m nodes && same_stand (stand m) s) in omega arith

  pub none_past : (s : Stand) (m : ℕ) → nodes ≤ m → times m (list_in l s) ≡ 0
  none_past s m le = linked.once s m ∙ past_none (same_stand (stand m) s) m nodes le

  pub below_from_here : (x : ℕ) (xs : List ℕ) → ((m : ℕ) → nodes ≤ m → times m (x ∷ xs) ≡ 0) → x < nodes
  below_from_here x xs below = ⊎_elim (λ lt. lt) (λ le. let none = below x le in let h = times-head x xs in absurd (omega arith)) (cases_lt x nodes)

  met-path : (z from most : ℕ) (xs : List ℕ) → nodes ≤ z → ((m : ℕ) → nodes ≤ m → times m xs ≡ 0) → length xs ≤ most → Leads f from xs z
      → met f nodes (f from) most ≡ xs
  met-path z from zero [] past below le path = refl
  met-path z from zero (x ∷ xs) past below le path = absurd (omega arith)
  met-path z from (suc most) [] past below le path = ap (λ a. cond a (f from ∷ met f nodes (f (f from)) most) []) (past_test (f from) nodes (omega arith))
  met-path z from (suc most) (x ∷ xs) past below le path =
      let rest = met-path z x most xs past (λ m h. let k = times-cons m x xs in let none = below m h in omega arith) (omega arith) path.1 in
      ap (λ y. met f nodes y (suc most)) path.0
      ∙ ap (λ a. cond a (x ∷ met f nodes (f x) most) []) (lt-ltb x nodes (below_from_here x xs below))
      ∙ ap (λ ys. x ∷ ys) rest

  spelled : (s : Stand) → behind f nodes s ≡ list_in l s
  spelled s =
      met-path (nodes + code s) (nodes + code s) nodes (list_in l s) (omega arith) (none_past s)
      (length_bound nodes (list_in l s) (at_most_once s) (none_past s)) (linked.leads s)

  pub lists_spelled : linked_lists f nodes ≡ l
  unfolding linked_lists
  lists_spelled = same_lists (linked_lists f nodes) l by
    where
      by : (s : Stand) → list_in (linked_lists f nodes) s ≡ list_in l s
      by Waiting = spelled Waiting
      by Ready = spelled Ready
      by Running = spelled Running
      by Unflushed = spelled Unflushed
      by Flushing = spelled Flushing
      by Settled = spelled Settled

  -- the place behind another is the first node met from there, or no node
  first_met : (from : ℕ) (xs : List ℕ) (z : ℕ) → nodes ≤ z → ((m : ℕ) → nodes ≤ m → times m xs ≡ 0) → Leads f from xs z
      → cond (nat_lt (f from) nodes) (Some (f from)) None ≡ slice_get xs 0
  first_met from [] z past below path = ap (λ a. cond a (Some (f from)) None) (past_test (f from) nodes (omega arith))
  first_met from (x ∷ xs) z past below path =
      ap (λ y. cond (nat_lt y nodes) (Some y) None) path.0 ∙ ap (λ a. cond a (Some x) None) (lt-ltb x nodes (below_from_here x xs below))

  pub first_of : (s : Stand) → cond (nat_lt (f (nodes + code s)) nodes) (Some (f (nodes + code s))) None ≡ slice_get (list_in l s) 0
  first_of s = first_met (nodes + code s) (list_in l s) (nodes + code s) (omega arith) (none_past s) (linked.leads s)

  -- the place behind a node's is the next of its list, or no node where it is the last
  pub next_of : (s : Stand) (n : ℕ) (before behind : List ℕ) → list_in l s ≡ before ++ n ∷ behind
      → cond (nat_lt (f n) nodes) (Some (f n)) None ≡ slice_get behind 0
  next_of s n before behind parts =
      first_met n behind (nodes + code s) (omega arith)
      (λ m le. let none = none_past s m le in let one : times m (list_in l s) ≡ times m before + times m (n ∷ behind) = ap (times m) parts ∙ times-append m before (n ∷ behind) in
      let two = times-cons m n behind in omega arith)
      (Leads-behind f (nodes + code s) (nodes + code s) n before behind (subst (λ xs. Leads f (nodes + code s) xs (nodes + code s)) parts (linked.leads s)))

  pub each_once : IsEachOnce nodes l
  each_once n =
      rw (linked.once Waiting n, linked.once Ready n, linked.once Running n, linked.once Unflushed n, linked.once Flushing n, linked.once Settled n)
      (by (nat_lt n nodes) (stand n))
    where
      by : (a : Bool) (t : Stand) → cond {A = ℕ} (a && same_stand t Waiting) 1 0 + cond {A = ℕ} (a && same_stand t Ready) 1 0 + cond {A = ℕ} (a && same_stand t Running) 1 0
          + cond {A = ℕ} (a && same_stand t Unflushed) 1 0 + cond {A = ℕ} (a && same_stand t Flushing) 1 0 + cond {A = ℕ} (a && same_stand t Settled) 1 0 ≡ cond {A = ℕ} a 1 0
      by false t = refl
      by true Waiting = refl
      by true Ready = refl
      by true Running = refl
      by true Unflushed = refl
      by true Flushing = refl
      by true Settled = refl

-- ---- a node goes to the end of a list

module _ (f b f1 b1 g c : ℕ → ℕ) (stand after : ℕ → Stand) (nodes p : ℕ) (to : Stand) (l : SixLists)
    (linked : IsLinked f b stand nodes l) (in_p : p < nodes) (u : Unlinks f b f1 b1 p) (v : Splices f1 b1 g c (nodes + code to) p)
    (others : (n : ℕ) → n ≢ p → after n ≡ stand n) (own : after p ≡ to) where
  out_ring : IsRing f1 b1 (nodes + 6)
  out_ring = IsRing-unlink f b f1 b1 (nodes + 6) p linked.ring (omega arith) u

  to_place : nodes + code to < nodes + 6
  to_place = let h = code_below to in omega arith

  not_to : p ≢ nodes + code to
  not_to e = absurd (omega arith)

  rest_of : Stand → List ℕ
  rest_of s = without p (list_in l s)

  no_anchor : (s : Stand) → times (nodes + code to) (rest_of s) ≡ 0
  unfolding rest_of
  no_anchor s = times-without_other (nodes + code to) p (list_in l s) (λ e. not_to (sym e)) ∙ none_past f b stand nodes l linked s (nodes + code to) (omega arith)

  no_p : (s : Stand) → times p (rest_of s) ≡ 0
  unfolding rest_of
  no_p s = times-without_same p (list_in l s)

  out : (s : Stand) → Leads f1 (nodes + code s) (rest_of s) (nodes + code s)
  unfolding rest_of
  out s =
      let h = code_below s in
      let ne : nodes + code s ≢ p = λ e. absurd (omega arith) in
      Leads-unlink f b f1 b1 (nodes + 6) p (nodes + code s) linked.ring (omega arith) u ne (nodes + code s) (list_in l s) (omega arith) ne (linked.leads s)

  moved_leads : (s : Stand) → Leads g (nodes + code s) (after_move p to l s) (nodes + code s)
  unfolding rest_of
  moved_leads s = ⊎_elim here there (cases_eq (code to) (code s))
    where
      here : code to ≡ code s → Leads g (nodes + code s) (after_move p to l s) (nodes + code s)
      here e =
          subst (λ t. Leads g (nodes + code t) (after_move p to l t) (nodes + code t)) (same_from_code to s e)
          (ap_end (eq-eqb (code to) (code to) refl)
          (Leads-splice f1 b1 g c (nodes + 6) (nodes + code to) p out_ring to_place (omega arith) not_to v (nodes + code to) (rest_of to) [] to_place
          (no_anchor to) (no_p to) refl refl (out to) u.next_own))
        where
          ap_end : same_stand to to ≡ true → Leads g (nodes + code to) (rest_of to ++ p ∷ []) (nodes + code to) → Leads g (nodes + code to) (after_move p to l to) (nodes + code to)
          ap_end t path = subst (λ a. Leads g (nodes + code to) (rest_of to ++ cond a (p ∷ []) []) (nodes + code to)) (sym t) path

      there : code to ≢ code s → Leads g (nodes + code s) (after_move p to l s) (nodes + code s)
      there ne =
          let h = code_below s in
          let not_e : nodes + code s ≢ nodes + code to = λ e. ne (omega arith) in
          let not_s : nodes + code s ≢ p = λ e. absurd (omega arith) in
          subst (λ xs. Leads g (nodes + code s) xs (nodes + code s)) (sym (ap (λ a. rest_of s ++ cond a (p ∷ []) []) (ne_eqb (code to) (code s) ne) ∙ append-nil (rest_of s)))
          (Leads-splice_other f1 b1 g c (nodes + 6) (nodes + code to) p out_ring to_place (omega arith) not_to v (nodes + code s) (nodes + code s) (rest_of s)
          not_e not_s (omega arith) (no_anchor s) (no_p s) (out s))

  moved_once : (s : Stand) (n : ℕ) → times n (after_move p to l s) ≡ cond {A = ℕ} (nat_lt n nodes && same_stand (after n) s) 1 0
  moved_once s n = times-append n (without p (list_in l s)) (cond (same_stand to s) (p ∷ []) []) ∙ ⊎_elim same other (cases_eq n p)
    where
      times_end : (a : Bool) → times p (cond a (p ∷ []) []) ≡ cond {A = ℕ} a 1 0
      times_end true = times-head p []
      times_end false = refl

      times_end_other : n ≢ p → (a : Bool) → times n (cond a (p ∷ []) []) ≡ 0
      times_end_other ne true = times-other n p [] ne
      times_end_other ne false = refl

      same : n ≡ p → times n (without p (list_in l s)) + times n (cond (same_stand to s) (p ∷ []) []) ≡ cond {A = ℕ} (nat_lt n nodes && same_stand (after n) s) 1 0
      same e =
          subst (λ m. times m (without p (list_in l s)) + times m (cond (same_stand to s) (p ∷ []) []) ≡ cond {A = ℕ} (nat_lt m nodes && same_stand (after m) s) 1 0) (sym e)
          (let none = times-without_same p (list_in l s) in
          let end = times_end (same_stand to s) in
          let tag : cond {A = ℕ} (nat_lt p nodes && same_stand (after p) s) 1 0 ≡ cond {A = ℕ} (same_stand to s) 1 0
          = ap (λ a. cond {A = ℕ} (a && same_stand (after p) s) 1 0) (lt-ltb p nodes in_p) ∙ ap (λ t. cond {A = ℕ} (same_stand t s) 1 0) own in
          omega arith)

      other : n ≢ p → times n (without p (list_in l s)) + times n (cond (same_stand to s) (p ∷ []) []) ≡ cond {A = ℕ} (nat_lt n nodes && same_stand (after n) s) 1 0
      other ne =
          let kept = times-without_other n p (list_in l s) ne in
          let end = times_end_other ne (same_stand to s) in
          let was = linked.once s n in
          let tag : cond {A = ℕ} (nat_lt n nodes && same_stand (after n) s) 1 0 ≡ cond {A = ℕ} (nat_lt n nodes && same_stand (stand n) s) 1 0
          = ap (λ t. cond {A = ℕ} (nat_lt n nodes && same_stand t s) 1 0) (others n ne) in
          omega arith

  pub IsLinked-move : IsLinked g c after nodes (moved p to l)
  IsLinked-move = record {
    ring = IsRing-splice f1 b1 g c (nodes + 6) (nodes + code to) p out_ring to_place (omega arith) not_to v;
    leads = λ s. subst (λ xs. Leads g (nodes + code s) xs (nodes + code s)) (sym (list_in-moved p to l s)) (moved_leads s);
    once = λ s n. ap (times n) (list_in-moved p to l s) ∙ moved_once s n;
  }

-- ---- all of Unflushed goes to the end of Flushing

-- a list with a node's place at its end is the ring that begins at what is behind the list's own place
Leads-more : (f : ℕ → ℕ) (s m z : ℕ) (xs : List ℕ) → Leads f s xs m → f m ≡ z → Leads f s (xs ++ m ∷ []) z
Leads-more f s m z [] path end = (path, end)
Leads-more f s m z (x ∷ xs) path end = (path.0, Leads-more f x m z xs path.1 end)

ring_from_first : (f : ℕ → ℕ) (a : ℕ) (xs : List ℕ) → Leads f a xs a → (ws : List ℕ) × Leads f (f a) ws (f a) × (f a ∷ ws ≡ xs ++ a ∷ [])
ring_from_first f a [] path = ([], ap f path, ap (λ y. y ∷ []) path)
ring_from_first f a (x ∷ xs) path =
    (xs ++ a ∷ [], subst (λ y. Leads f y (xs ++ a ∷ []) y) (sym path.0) (Leads-more f x a x xs path.1 path.0), ap (λ y. y ∷ (xs ++ a ∷ [])) path.0)

-- what is behind the place of Unflushed isn't the place of Flushing
pub first_not_end : (f b : ℕ → ℕ) (stand : ℕ → Stand) (nodes : ℕ) (l : SixLists) → IsLinked f b stand nodes l → f (nodes + 3) ≢ nodes + 4
first_not_end f b stand nodes l linked e = by l.unflushed (none_past f b stand nodes l linked Unflushed) (linked.leads Unflushed)
  where
    by : (xs : List ℕ) → ((m : ℕ) → nodes ≤ m → times m xs ≡ 0) → Leads f (nodes + 3) xs (nodes + 3) → ⊥
    by [] below path = absurd (omega arith)
    by (x ∷ xs) below path =
        let first = path.0 in
        let none = below x (omega arith) in
        let head = times-head x xs in
        absurd (omega arith)

-- the list of a node once Unflushed was joined to Flushing
abbrev pub stand_joined : Stand → Stand
stand_joined Waiting = Waiting
stand_joined Ready = Ready
stand_joined Running = Running
stand_joined Unflushed = Flushing
stand_joined Flushing = Flushing
stand_joined Settled = Settled

module _ (f b f1 b1 g c : ℕ → ℕ) (stand after : ℕ → Stand) (nodes : ℕ) (l : SixLists)
    (linked : IsLinked f b stand nodes l) (v : Splices f b f1 b1 (nodes + 4) (f (nodes + 3))) (u : Unlinks f1 b1 g c (nodes + 3))
    (tags : (n : ℕ) → n < nodes → after n ≡ stand_joined (stand n)) where
  ring_in : Leads f (nodes + 3) l.unflushed (nodes + 3)
  ring_in = linked.leads Unflushed

  -- the nodes of Unflushed and its place are a ring from the first of them on
  behind_first : (ws : List ℕ) × Leads f (f (nodes + 3)) ws (f (nodes + 3)) × (f (nodes + 3) ∷ ws ≡ l.unflushed ++ (nodes + 3) ∷ [])
  behind_first = ring_from_first f (nodes + 3) l.unflushed ring_in

  first_in : f (nodes + 3) < nodes + 6
  first_in = linked.ring.next_in (nodes + 3) (omega arith)

  times_ring : (m : ℕ) → times m (f (nodes + 3) ∷ behind_first.0) ≡ times m l.unflushed + times m ((nodes + 3) ∷ [])
  times_ring m = ap (times m) behind_first.2 ∙ times-append m l.unflushed ((nodes + 3) ∷ [])

  no_end : ((nodes + 4) ≢ f (nodes + 3)) × (times (nodes + 4) behind_first.0 ≡ 0)
  no_end = apart (nodes + 4) (f (nodes + 3)) behind_first.0
      (let ring = times_ring (nodes + 4) in
      let none = none_past f b stand nodes l linked Unflushed (nodes + 4) (omega arith) in
      let other = times-other (nodes + 4) (nodes + 3) [] (λ e. absurd (omega arith)) in
      omega arith)

  -- the first is a node of Unflushed, or the place of the list where it is empty
  first_is : (f (nodes + 3) ≡ nodes + 3) ⊎ (times (f (nodes + 3)) l.unflushed ≡ 1)
  first_is = ⊎_elim inl (λ ne. inr (node ne)) (cases_eq (f (nodes + 3)) (nodes + 3))
    where
      node : f (nodes + 3) ≢ nodes + 3 → times (f (nodes + 3)) l.unflushed ≡ 1
      node ne =
          let ring = times_ring (f (nodes + 3)) in
          let head = times-head (f (nodes + 3)) behind_first.0 in
          let other = times-other (f (nodes + 3)) (nodes + 3) [] ne in
          let once = at_most_once f b stand nodes l linked Unflushed (f (nodes + 3)) in
          omega arith

  no_first_behind : times (f (nodes + 3)) behind_first.0 ≡ 0
  no_first_behind = ⊎_elim own node first_is
    where
      own : f (nodes + 3) ≡ nodes + 3 → times (f (nodes + 3)) behind_first.0 ≡ 0
      own e =
          let ring = times_ring (f (nodes + 3)) in
          let head = times-head (f (nodes + 3)) behind_first.0 in
          let none : times (f (nodes + 3)) l.unflushed ≡ 0 = none_past f b stand nodes l linked Unflushed (f (nodes + 3)) (omega arith) in
          let one : times (f (nodes + 3)) ((nodes + 3) ∷ []) ≡ 1 = ap (λ y. times y ((nodes + 3) ∷ [])) e ∙ times-head (nodes + 3) [] in
          omega arith

      node : times (f (nodes + 3)) l.unflushed ≡ 1 → times (f (nodes + 3)) behind_first.0 ≡ 0
      node there =
          let ring = times_ring (f (nodes + 3)) in
          let head = times-head (f (nodes + 3)) behind_first.0 in
          let other : times (f (nodes + 3)) ((nodes + 3) ∷ []) ≡ 0
          = times-other (f (nodes + 3)) (nodes + 3) []
          (λ e. let none = none_past f b stand nodes l linked Unflushed (f (nodes + 3)) (omega arith) in absurd (omega arith)) in
          omega arith

  no_first : (s : Stand) → code s ≢ 3 → times (f (nodes + 3)) (list_in l s) ≡ 0
  no_first s ne = ⊎_elim (λ e. none_past f b stand nodes l linked s (f (nodes + 3)) (omega arith)) node first_is
    where
      apart_tags : (a : Bool) (t : Stand) → cond {A = ℕ} (a && same_stand t Unflushed) 1 0 ≡ 1 → cond {A = ℕ} (a && same_stand t s) 1 0 ≡ 0
      apart_tags false t there = refl
      apart_tags true Waiting there = absurd (omega arith)
      apart_tags true Ready there = absurd (omega arith)
      apart_tags true Running there = absurd (omega arith)
      apart_tags true Unflushed there = ap (λ a. cond {A = ℕ} a 1 0) (ne_eqb 3 (code s) (λ e. ne (sym e)))
      apart_tags true Flushing there = absurd (omega arith)
      apart_tags true Settled there = absurd (omega arith)

      node : times (f (nodes + 3)) l.unflushed ≡ 1 → times (f (nodes + 3)) (list_in l s) ≡ 0
      node there =
          linked.once s (f (nodes + 3))
          ∙ apart_tags (nat_lt (f (nodes + 3)) nodes) (stand (f (nodes + 3))) (sym (linked.once Unflushed (f (nodes + 3))) ∙ there)

  joined_ring : IsRing f1 b1 (nodes + 6)
  joined_ring = IsRing-splice f b f1 b1 (nodes + 6) (nodes + 4) (f (nodes + 3)) linked.ring (omega arith) first_in (λ e. no_end.0 (sym e)) v

  -- what Unflushed's place leaves when it goes
  out_of : (s : Stand) (xs : List ℕ) → code s ≢ 3 → Leads f1 (nodes + code s) xs (nodes + code s) → Leads g (nodes + code s) (without (nodes + 3) xs) (nodes + code s)
  out_of s xs ne path =
      let h = code_below s in
      let apart_from : nodes + code s ≢ nodes + 3 = λ e. ne (omega arith) in
      Leads-unlink f1 b1 g c (nodes + 6) (nodes + 3) (nodes + code s) joined_ring (omega arith) u apart_from (nodes + code s) xs (omega arith) apart_from path

  kept_leads : (s : Stand) → code s ≢ 3 → code s ≢ 4 → Leads g (nodes + code s) (list_in l s) (nodes + code s)
  kept_leads s not_3 not_4 =
      let h = code_below s in
      let end : nodes + code s ≢ nodes + 4 = λ e. not_4 (omega arith) in
      let first : nodes + code s ≢ f (nodes + 3) = ⊎_elim {C = nodes + code s ≢ f (nodes + 3)} (λ e q. not_3 (omega arith))
      (λ there q. let none = none_past f b stand nodes l linked Unflushed (f (nodes + 3)) (omega arith) in absurd (omega arith)) first_is in
      subst (λ xs. Leads g (nodes + code s) xs (nodes + code s))
      (without-none (nodes + 3) (list_in l s) (none_past f b stand nodes l linked s (nodes + 3) (omega arith)))
      (out_of s (list_in l s) not_3
      (Leads-splice_other f b f1 b1 (nodes + 6) (nodes + 4) (f (nodes + 3)) linked.ring (omega arith) first_in (λ e. no_end.0 (sym e)) v
      (nodes + code s) (nodes + code s) (list_in l s) end first (omega arith)
      (none_past f b stand nodes l linked s (nodes + 4) (omega arith)) (no_first s not_3) (linked.leads s)))

  flushing_leads : Leads g (nodes + 4) (l.flushing ++ l.unflushed) (nodes + 4)
  flushing_leads =
      subst (λ xs. Leads g (nodes + 4) xs (nodes + 4)) is
      (out_of Flushing (l.flushing ++ f (nodes + 3) ∷ behind_first.0) (λ e. absurd (omega arith))
      (Leads-splice f b f1 b1 (nodes + 6) (nodes + 4) (f (nodes + 3)) linked.ring (omega arith) first_in (λ e. no_end.0 (sym e)) v
      (nodes + 4) l.flushing behind_first.0 (omega arith)
      (none_past f b stand nodes l linked Flushing (nodes + 4) (omega arith)) (no_first Flushing (λ e. absurd (omega arith)))
      no_end.1 no_first_behind (linked.leads Flushing) behind_first.1))
    where
      is : without (nodes + 3) (l.flushing ++ f (nodes + 3) ∷ behind_first.0) ≡ l.flushing ++ l.unflushed
      is =
          ap (λ ys. without (nodes + 3) (l.flushing ++ ys)) behind_first.2
          ∙ without-append (nodes + 3) l.flushing (l.unflushed ++ (nodes + 3) ∷ [])
          ∙ ap (λ ys. without (nodes + 3) l.flushing ++ ys) (without-append (nodes + 3) l.unflushed ((nodes + 3) ∷ []))
          ∙ ap (λ ys. without (nodes + 3) l.flushing ++ (without (nodes + 3) l.unflushed ++ ys)) (without-head (nodes + 3) [])
          ∙ ap (λ ys. without (nodes + 3) l.flushing ++ ys) (append-nil (without (nodes + 3) l.unflushed))
          ∙ ap (λ ys. ys ++ without (nodes + 3) l.unflushed) (without-none (nodes + 3) l.flushing (none_past f b stand nodes l linked Flushing (nodes + 3) (omega arith)))
          ∙ ap (λ ys. l.flushing ++ ys) (without-none (nodes + 3) l.unflushed (none_past f b stand nodes l linked Unflushed (nodes + 3) (omega arith)))

  joined_leads : (s : Stand) → Leads g (nodes + code s) (list_in (joined l) s) (nodes + code s)
  joined_leads Waiting = kept_leads Waiting (λ e. absurd (omega arith)) (λ e. absurd (omega arith))
  joined_leads Ready = kept_leads Ready (λ e. absurd (omega arith)) (λ e. absurd (omega arith))
  joined_leads Running = kept_leads Running (λ e. absurd (omega arith)) (λ e. absurd (omega arith))
  joined_leads Unflushed = u.next_own
  joined_leads Flushing = flushing_leads
  joined_leads Settled = kept_leads Settled (λ e. absurd (omega arith)) (λ e. absurd (omega arith))

  joined_tag : (s : Stand) (n : ℕ) → cond {A = ℕ} (nat_lt n nodes && same_stand (stand_joined (stand n)) s) 1 0 ≡ cond {A = ℕ} (nat_lt n nodes && same_stand (after n) s) 1 0
  joined_tag s n = ⊎_elim (λ lt. ap (λ t. cond {A = ℕ} (nat_lt n nodes && same_stand t s) 1 0) (sym (tags n lt)))
      (λ le. past_none (same_stand (stand_joined (stand n)) s) n nodes le ∙ sym (past_none (same_stand (after n) s) n nodes le)) (cases_lt n nodes)

  joined_once : (s : Stand) (n : ℕ) → times n (list_in (joined l) s) ≡ cond {A = ℕ} (nat_lt n nodes && same_stand (after n) s) 1 0
  joined_once s n = by s ∙ joined_tag s n
    where
      kept : (s : Stand) (a : Bool) (t : Stand) → code s ≢ 3 → code s ≢ 4 → cond {A = ℕ} (a && same_stand t s) 1 0 ≡ cond {A = ℕ} (a && same_stand (stand_joined t) s) 1 0
      kept s false t not_3 not_4 = refl
      kept s true Waiting not_3 not_4 = refl
      kept s true Ready not_3 not_4 = refl
      kept s true Running not_3 not_4 = refl
      kept s true Unflushed not_3 not_4 = ap (λ a. cond {A = ℕ} a 1 0) (ne_eqb 3 (code s) (λ e. not_3 (sym e)) ∙ sym (ne_eqb 4 (code s) (λ e. not_4 (sym e))))
      kept s true Flushing not_3 not_4 = refl
      kept s true Settled not_3 not_4 = refl

      both : (a : Bool) (t : Stand) → cond {A = ℕ} (a && same_stand t Flushing) 1 0 + cond {A = ℕ} (a && same_stand t Unflushed) 1 0
          ≡ cond {A = ℕ} (a && same_stand (stand_joined t) Flushing) 1 0
      both false t = refl
      both true Waiting = refl
      both true Ready = refl
      both true Running = refl
      both true Unflushed = refl
      both true Flushing = refl
      both true Settled = refl

      none : (a : Bool) (t : Stand) → 0 ≡ cond {A = ℕ} (a && same_stand (stand_joined t) Unflushed) 1 0
      none false t = refl
      none true Waiting = refl
      none true Ready = refl
      none true Running = refl
      none true Unflushed = refl
      none true Flushing = refl
      none true Settled = refl

      by : (s : Stand) → times n (list_in (joined l) s) ≡ cond {A = ℕ} (nat_lt n nodes && same_stand (stand_joined (stand n)) s) 1 0
      by Waiting = linked.once Waiting n ∙ kept Waiting (nat_lt n nodes) (stand n) (λ e. absurd (omega arith)) (λ e. absurd (omega arith))
      by Ready = linked.once Ready n ∙ kept Ready (nat_lt n nodes) (stand n) (λ e. absurd (omega arith)) (λ e. absurd (omega arith))
      by Running = linked.once Running n ∙ kept Running (nat_lt n nodes) (stand n) (λ e. absurd (omega arith)) (λ e. absurd (omega arith))
      by Unflushed = none (nat_lt n nodes) (stand n)
      by Flushing =
          times-append n l.flushing l.unflushed
          ∙ (let one = linked.once Flushing n in let two = linked.once Unflushed n in let sum = both (nat_lt n nodes) (stand n) in omega arith)
      by Settled = linked.once Settled n ∙ kept Settled (nat_lt n nodes) (stand n) (λ e. absurd (omega arith)) (λ e. absurd (omega arith))

  pub IsLinked-join : IsLinked g c after nodes (joined l)
  IsLinked-join = record {
    ring = IsRing-unlink f1 b1 g c (nodes + 6) (nodes + 3) joined_ring (omega arith) u;
    leads = joined_leads;
    once = joined_once;
  }
