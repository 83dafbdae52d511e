-- The users of a node in number order.
use Rattle.std.proofs.Common.{◌≡◌, ◌≢◌, ℕ, zero, suc, ◌+◌, ◌<◌, ◌≤◌, Bool, true, false, cond, not, ◌&&◌, ◌||◌, eqb, nat_eq, List, [], ◌∷◌, length, filter, get_or, refl, sym, ap, ◌∙◌, subst, ⊎_elim, arith, eq-eqb, ne_eqb, eqb-true, true≢false}
use Rattle.std.proofs.lemmas.Bool.{cases_eq, cases_lt, and_parts}
use Rattle.std.proofs.lemmas.Map.Views.{any-filter_same}
use Rattle.std.proofs.lemmas.List.{get_or_past}
use Rattle.std.specs.List.{range_with_len}
use Rattle.std.specs.List.Sorted.{IsNonDecreasing}
use Rattle.mk_graph.specs.Edges.{row, has, times, AreUsers}
use Rattle.bd_places.specs.Settling.{Prerequisites, users_of}
use Rattle.bd_links.proofs.ListLemmas.{times-cons, times-head}
use Rattle.bd_links.proofs.FirstLemmas.{below_range, in_range}
use Rattle.bd_places.proofs.TallyLemmas.{has-times}
use Rattle.bd_places.proofs.StandingLemmas.{has_from_positive, positive_from_has}

-- each number is below all behind it
abbrev pub Rises : List ℕ → Type 0
Rises [] = Unit {0}
Rises (x ∷ xs) = ((m : ℕ) → has xs m ≡ true → x < m) × Rises xs

not_behind : (x : ℕ) (xs : List ℕ) → ((m : ℕ) → has xs m ≡ true → x < m) → has xs x ≡ false
not_behind x xs above = by (has xs x) refl
  where
    by : (b : Bool) → has xs x ≡ b → has xs x ≡ false
    by true e = let h = above x e in absurd (omega arith)
    by false e = e

has-other : (m x : ℕ) (xs : List ℕ) → m ≢ x → has (x ∷ xs) m ≡ has xs m
has-other m x xs ne = ap (λ b. b || has xs m) (ne_eqb m x ne)

has-head : (x : ℕ) (xs : List ℕ) → has (x ∷ xs) x ≡ true
has-head x xs = ap (λ b. b || has xs x) (eq-eqb x x refl)

-- lists that rise are equal where they have the same numbers
pub same_rising : (xs ys : List ℕ) → Rises xs → Rises ys → ((m : ℕ) → has xs m ≡ has ys m) → xs ≡ ys
same_rising [] [] a b same = refl
same_rising [] (y ∷ ys) a b same = absurd (true≢false (sym (same y ∙ has-head y ys)))
same_rising (x ∷ xs) [] a b same = absurd (true≢false (sym (has-head x xs) ∙ same x))
same_rising (x ∷ xs) (y ∷ ys) a b same =
    let heads : x ≡ y = ⊎_elim (λ e. e) apart (cases_eq x y) in
    let tails = same_rising xs ys a.1 b.1 (λ m. ⊎_elim (λ e. here m e heads) (λ ne. behind m ne heads) (cases_eq m x)) in
    (λ i. heads i ∷ tails i)
  where
    apart : x ≢ y → x ≡ y
    apart ne =
        let in_ys : has ys x ≡ true = sym (has-other x y ys ne) ∙ sym (same x) ∙ has-head x xs in
        let in_xs : has xs y ≡ true = sym (has-other y x xs (λ e. ne (sym e))) ∙ same y ∙ has-head y ys in
        let h = a.0 y in_xs in
        let k = b.0 x in_ys in
        absurd (omega arith)

    here : (m : ℕ) → m ≡ x → x ≡ y → has xs m ≡ has ys m
    here m e f = ap (has xs) e ∙ not_behind x xs a.0 ∙ sym (ap (has ys) (e ∙ f) ∙ not_behind y ys b.0)

    behind : (m : ℕ) → m ≢ x → x ≡ y → has xs m ≡ has ys m
    behind m ne f = sym (has-other m x xs ne) ∙ same m ∙ has-other m y ys (λ e. ne (e ∙ sym f))

place_of : (xs : List ℕ) (m : ℕ) → has xs m ≡ true → (j : ℕ) × (j < length xs) × (get_or xs j 0 ≡ m)
place_of [] m there = absurd (true≢false (sym there))
place_of (x ∷ xs) m there = ⊎_elim (λ e. (0, omega arith, sym e)) (λ ne. further (place_of xs m (sym (has-other m x xs ne) ∙ there))) (cases_eq m x)
  where
    further : (j : ℕ) × (j < length xs) × (get_or xs j 0 ≡ m) → (j : ℕ) × (j < length (x ∷ xs)) × (get_or (x ∷ xs) j 0 ≡ m)
    further p = let h = p.1 in (suc p.0, omega arith, p.2)

-- numbers that don't fall, each once, rise
pub rises_from : (xs : List ℕ) → IsNonDecreasing xs → ((m : ℕ) → times m xs ≤ 1) → Rises xs
rises_from [] kept once = tt
rises_from (x ∷ xs) kept once =
    (above, rises_from xs (λ i j d le lt. kept (suc i) (suc j) d (omega arith) (omega arith)) (λ m. let h = once m in let k = times-cons m x xs in omega arith))
  where
    above : (m : ℕ) → has xs m ≡ true → x < m
    above m there =
        let p = place_of xs m there in
        let below = p.1 in
        let not_above : x ≤ get_or xs p.0 0 = kept 0 (suc p.0) 0 (omega arith) (omega arith) in
        let is = p.2 in
        let one = once x in
        let head = times-head x xs in
        let ne : x ≢ m = λ e. let two = positive_from_has xs x (subst (λ k. has xs k ≡ true) (sym e) there) in absurd (omega arith) in
        omega arith

pub has-filter : (p : ℕ → Bool) (xs : List ℕ) (m : ℕ) → has (filter p xs) m ≡ (p m && has xs m)
has-filter p xs m = any-filter_same (nat_eq m) p (p m) (λ k e. ap p (sym (eqb-true m k e))) xs

rises_range : (p : ℕ → Bool) (a k : ℕ) → Rises (filter p (range_with_len a k))
rises_range p a zero = tt
rises_range p a (suc k) = by (rises_range p (a + 1) k) (p a) refl
  where
    above : (m : ℕ) → has (filter p (range_with_len (a + 1) k)) m ≡ true → a < m
    above m there = ⊎_elim (λ lt. absurd (past lt)) (λ le. omega arith) (cases_lt m (a + 1))
      where
        past : m < a + 1 → ⊥
        past lt =
            let h = and_parts (p m) (has (range_with_len (a + 1) k) m) (sym (has-filter p (range_with_len (a + 1) k) m) ∙ there) in
            let one = positive_from_has (range_with_len (a + 1) k) m h.1 in
            let none = below_range m (a + 1) k lt in
            omega arith

    by : Rises (filter p (range_with_len (a + 1) k)) → (b : Bool) → p a ≡ b → Rises (filter p (a ∷ range_with_len (a + 1) k))
    by rest true e = subst (λ b. Rises (cond b (a ∷ filter p (range_with_len (a + 1) k)) (filter p (range_with_len (a + 1) k)))) (sym e) (above, rest)
    by rest false e = subst (λ b. Rises (cond b (a ∷ filter p (range_with_len (a + 1) k)) (filter p (range_with_len (a + 1) k)))) (sym e) rest

pub users_in_order : (g : Prerequisites) (users : List (List ℕ)) (n : ℕ) → AreUsers g.counted users → ((u m : ℕ) → times m (row g.counted u) ≤ 1)
    → n < length g.counted → row users n ≡ users_of g n
users_in_order g users n are once in_n =
    same_rising (row users n) (users_of g n)
    (rises_from (row users n) (are.ascending n) (λ u. let h = are.counts u n in_n in let k = once u n in omega arith))
    (rises_range (λ u. has (row g.counted u) n) 0 (length g.counted)) same
  where
    named : (u : ℕ) → has (row users n) u ≡ has (row g.counted u) n
    named u = has-times (row users n) u ∙ ap (λ k. not (eqb k 0)) (are.counts u n in_n) ∙ sym (has-times (row g.counted u) n)

    and_true : (b : Bool) → b ≡ (b && true)
    and_true true = refl
    and_true false = refl

    same : (u : ℕ) → has (row users n) u ≡ has (users_of g n) u
    same u = named u ∙ ⊎_elim inside past (cases_lt u (length g.counted)) ∙ sym (has-filter (λ v. has (row g.counted v) n) (range_with_len 0 (length g.counted)) u)
      where
        inside : u < length g.counted → has (row g.counted u) n ≡ (has (row g.counted u) n && has (range_with_len 0 (length g.counted)) u)
        inside lt =
            and_true (has (row g.counted u) n)
            ∙ ap (λ b. has (row g.counted u) n && b)
            (sym (has_from_positive (range_with_len 0 (length g.counted)) u (let h = in_range u 0 (length g.counted) (omega arith) (omega arith) in omega arith)))

        past : length g.counted ≤ u → has (row g.counted u) n ≡ (has (row g.counted u) n && has (range_with_len 0 (length g.counted)) u)
        past le =
            let none : has (row g.counted u) n ≡ false = ap (λ l. has l n) (get_or_past g.counted u [] le) in
            none ∙ ap (λ b. b && has (range_with_len 0 (length g.counted)) u) (sym none)
