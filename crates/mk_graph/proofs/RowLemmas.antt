-- Membership, multiplicity and rows.
use Rattle.std.proofs.Common.{◌≡◌, ◌≢◌, ℕ, ◌+◌, ◌-◌, ◌*◌, ◌<◌, ◌≤◌, Bool, true, false, cond, ◌&&◌, ◌||◌, nat_eq, nat_lt, nat_le, List, [], ◌∷◌, ◌++◌, length, get_or, take, map, replicate, append_assoc, append-nil, refl, sym, ap, ◌∙◌, subst, ⊎_elim, arith, suc, zero, eq-eqb, ne_eqb, eqb-true, ltb-true, lt-ltb, leb-true, le-leb, true≢false}
use Rattle.std.proofs.lemmas.Bool.{cases_eq, cases_lt, and_parts}
use Rattle.std.proofs.lemmas.List.{get_or_past, get_or-take, length-take-le}
use Rattle.std.proofs.lemmas.List.Sums.{sum_by-cons, sum_by_more, sum_by-take-le, sum_by-append}
use Rattle.std.proofs.lemmas.List.Folds.{list_any-append, list_any_more, list_all-append, sum_by-replicate}
use Rattle.std.proofs.lemmas.List.Sorted.{IsNonDecreasingBy-short, IsNonDecreasingBy-push}
use Rattle.std.specs.List.Sorted.{IsNonDecreasing}
use Rattle.std.specs.List.{list_all}
use Rattle.mk_graph.specs.Edges.{row, has, times}

pub times-cons : (n x : ℕ) (xs : List ℕ) → times n (x ∷ xs) ≡ cond (nat_eq n x) 1 0 + times n xs
times-cons n x xs = sum_by-cons (λ y. cond (nat_eq n y) 1 0) x xs

pub times-more : (n : ℕ) (xs : List ℕ) (i : ℕ) → i < length xs → times n (take (i + 1) xs) ≡ times n (take i xs) + cond (nat_eq n (get_or xs i 0)) 1 0
times-more n xs i h = sum_by_more (λ y. cond (nat_eq n y) 1 0) xs i 0 h

pub times_from_has : (n : ℕ) (xs : List ℕ) → has xs n ≡ true → 0 < times n xs
times_from_has n [] h = absurd (true≢false (sym h))
times_from_has n (x ∷ xs) h = by (times_from_has n xs) (nat_eq n x) refl
  where
    by : (has xs n ≡ true → 0 < times n xs) → (b : Bool) → nat_eq n x ≡ b → 0 < times n (x ∷ xs)
    by rest true e = rw (times-cons n x xs, e) (omega arith)
    by rest false e = let inner = rest (sym (ap (λ c. c || has xs n) e) ∙ h) in rw (times-cons n x xs, e) (omega arith)

pub times_without_has : (n : ℕ) (xs : List ℕ) → has xs n ≡ false → times n xs ≡ 0
times_without_has n [] h = refl
times_without_has n (x ∷ xs) h = by (times_without_has n xs) (nat_eq n x) refl
  where
    by : (has xs n ≡ false → times n xs ≡ 0) → (b : Bool) → nat_eq n x ≡ b → times n (x ∷ xs) ≡ 0
    by rest true e = absurd (true≢false (sym (ap (λ c. c || has xs n) e) ∙ h))
    by rest false e = let inner = rest (sym (ap (λ c. c || has xs n) e) ∙ h) in rw (times-cons n x xs, e) (omega arith)

pub has-push : (xs : List ℕ) (x n : ℕ) → has (xs ++ x ∷ []) n ≡ (has xs n || nat_eq n x)
has-push xs x n = list_any-append (nat_eq n) xs (x ∷ []) ∙ ap (λ b. has xs n || b) (or_false (nat_eq n x))
  where
    or_false : (b : Bool) → (b || false) ≡ b
    or_false true = refl
    or_false false = refl

-- what passes at each element passes at one that is there
pub list_all-has : (p : ℕ → Bool) (xs : List ℕ) (n : ℕ) → list_all p xs ≡ true → has xs n ≡ true → p n ≡ true
list_all-has p [] n all h = absurd (true≢false (sym h))
list_all-has p (x ∷ xs) n all h = by (list_all-has p xs n) (nat_eq n x) refl (p x) refl
  where
    by : (list_all p xs ≡ true → has xs n ≡ true → p n ≡ true) → (b : Bool) → nat_eq n x ≡ b → (c : Bool) → p x ≡ c → p n ≡ true
    by rest b e false f = absurd (true≢false (sym all ∙ ap (λ c. c && list_all p xs) f))
    by rest true e true f = ap p (eqb-true n x e) ∙ f
    by rest false e true f = rest (sym (ap (λ c. c && list_all p xs) f) ∙ all) (sym (ap (λ c. c || has xs n) e) ∙ h)

-- a read of a mapped list
pub get_or-map : {A B : Type 0} (f : A → B) (xs : List A) (i : ℕ) (d : A) → get_or (map f xs) i (f d) ≡ f (get_or xs i d)
get_or-map f [] i d = refl
get_or-map f (x ∷ xs) zero d = refl
get_or-map f (x ∷ xs) (suc i) d = get_or-map f xs i d

-- a number at a place is counted once more there
pub times_room : (xs : List ℕ) (i : ℕ) → i < length xs → times (get_or xs i 0) (take i xs) + 1 ≤ times (get_or xs i 0) xs
times_room xs i h =
    let more = times-more (get_or xs i 0) xs i h in
    let one = eq-eqb (get_or xs i 0) (get_or xs i 0) refl in
    let counted : times (get_or xs i 0) (take (i + 1) xs) ≡ times (get_or xs i 0) (take i xs) + 1 = more ∙ rw one refl in
    let part = sum_by-take-le (λ y. cond (nat_eq (get_or xs i 0) y) 1 0) xs (i + 1) in
    omega arith

-- what is in a beginning that is one longer
pub has-more : (xs : List ℕ) (i n : ℕ) → i < length xs → has (take (i + 1) xs) n ≡ (has (take i xs) n || nat_eq n (get_or xs i 0))
has-more xs i n h = list_any_more (nat_eq n) xs i 0 h

-- a row of a beginning that is one longer
pub times-row_more : (g : List (List ℕ)) (i m n : ℕ) → i < length g
    → times m (row (take (i + 1) g) n) ≡ times m (row (take i g) n) + cond (nat_eq n i) (times m (row g i)) 0
times-row_more g i m n h = ⊎_elim same other (cases_eq n i)
  where
    same : n ≡ i → times m (row (take (i + 1) g) n) ≡ times m (row (take i g) n) + cond (nat_eq n i) (times m (row g i)) 0
    same e =
        let short : length (take i g) ≡ i = length-take-le i g (omega arith) in
        let none : row (take i g) n ≡ [] = get_or_past (take i g) n [] (omega arith) in
        let at : row (take (i + 1) g) n ≡ row g i = get_or-take (i + 1) g n [] (omega arith) ∙ ap (row g) e in
        rw (eq-eqb n i e, none, at) (omega arith)

    other : n ≢ i → times m (row (take (i + 1) g) n) ≡ times m (row (take i g) n) + cond (nat_eq n i) (times m (row g i)) 0
    other apart =
        let short : length (take i g) ≡ i = length-take-le i g (omega arith) in
        let long : length (take (i + 1) g) ≡ i + 1 = length-take-le (i + 1) g (omega arith) in
        let at : row (take (i + 1) g) n ≡ row (take i g) n
        = ⊎_elim (λ lt. get_or-take (i + 1) g n [] (omega arith) ∙ sym (get_or-take i g n [] lt))
        (λ le. get_or_past (take (i + 1) g) n [] (omega arith) ∙ sym (get_or_past (take i g) n [] (omega arith)))
        (cases_lt n i) in
        ap (times m) at ∙ rw (ne_eqb n i apart) (omega arith)

-- a node at the end of a row, so often
times_noted : (n : ℕ) (xs : List ℕ) (k node : ℕ) → times n (xs ++ replicate k node) ≡ times n xs + cond (nat_eq n node) k 0
times_noted n xs k node =
    sum_by-append (λ y. cond (nat_eq n y) 1 0) xs (replicate k node) ∙ ap (λ t. times n xs + t) (sum_by-replicate (λ y. cond (nat_eq n y) 1 0) k node ∙ by (nat_eq n node))
  where
    by : (b : Bool) → k * cond b 1 0 ≡ cond b k 0
    by true = omega arith
    by false = omega arith

-- a test that all pass, at a place
pub list_all_place : {X : Type 0} (p : X → Bool) (xs : List X) (i : ℕ) (d : X) → i < length xs → list_all p xs ≡ true → p (get_or xs i d) ≡ true
list_all_place p [] i d h all = absurd (omega arith)
list_all_place p (x ∷ xs) zero d h all = (and_parts (p x) (list_all p xs) all).0
list_all_place p (x ∷ xs) (suc i) d h all = list_all_place p xs i d (omega arith) (and_parts (p x) (list_all p xs) all).1

pub list_all_weaker : (p q : ℕ → Bool) → ((n : ℕ) → p n ≡ true → q n ≡ true) → (xs : List ℕ) → list_all p xs ≡ true → list_all q xs ≡ true
list_all_weaker p q then [] all = refl
list_all_weaker p q then (x ∷ xs) all =
    let parts = and_parts (p x) (list_all p xs) all in
    rw (then x parts.0, list_all_weaker p q then xs parts.1) refl

list_all_replicate : (p : ℕ → Bool) (k node : ℕ) → p node ≡ true → list_all p (replicate k node) ≡ true
list_all_replicate p zero node h = refl
list_all_replicate p (suc k) node h = rw (h, list_all_replicate p k node h) refl

-- what is kept of a row while nodes are noted in their order
pub record Rises (limit : ℕ) (xs : List ℕ) : Type 0 where
  pub below : list_all (λ n. nat_lt n limit) xs ≡ true
  pub ascending : IsNonDecreasing xs

pub rises_none : (xs : List ℕ) → xs ≡ [] → Rises 0 xs
rises_none xs none = record {
  below = ap (list_all (λ n. nat_lt n 0)) none;
  ascending = IsNonDecreasingBy-short (λ x. x) xs (let z = ap length none in omega arith);
}

ascending_longer : (xs : List ℕ) (k node : ℕ) → list_all (λ n. nat_le n node) xs ≡ true → IsNonDecreasing xs → IsNonDecreasing (xs ++ replicate k node)
ascending_longer xs zero node all rises = subst IsNonDecreasing (sym (append-nil xs)) rises
ascending_longer xs (suc k) node all rises =
    subst IsNonDecreasing (append_assoc xs (node ∷ []) (replicate k node))
    (ascending_longer (xs ++ node ∷ []) k node
    (list_all-append (λ n. nat_le n node) xs (node ∷ []) ∙ rw (all, le-leb node node (omega arith)) refl)
    (IsNonDecreasingBy-push (λ x. x) xs node rises
    (λ d some. leb-true (get_or xs (length xs - 1) d) node (list_all_place (λ n. nat_le n node) xs (length xs - 1) d (omega arith) all))))

pub rises_more : (node k : ℕ) (xs : List ℕ) → Rises node xs → Rises (node + 1) (xs ++ replicate k node)
rises_more node k xs before = record {
  below =
      list_all-append (λ n. nat_lt n (node + 1)) xs (replicate k node)
      ∙ rw (list_all_weaker (λ n. nat_lt n node) (λ n. nat_lt n (node + 1)) (λ n h. let lt = ltb-true n node h in lt-ltb n (node + 1) (omega arith)) xs before.below)
      (list_all_replicate (λ n. nat_lt n (node + 1)) k node (lt-ltb node (node + 1) (omega arith)));
  ascending = ascending_longer xs k node
      (list_all_weaker (λ n. nat_lt n node) (λ n. nat_le n node) (λ n h. let lt = ltb-true n node h in le-leb n node (omega arith)) xs before.below) before.ascending;
}

-- one more node noted in the row of a prerequisite
module _ (g : List (List ℕ)) (before after : List ℕ) (node : ℕ) (within : node < length g) (m : ℕ)
    (noted : after ≡ before ++ replicate (times m (row g node)) node) where
  pub counts_more : (n : ℕ) → times n before ≡ times m (row (take node g) n) → times n after ≡ times m (row (take (node + 1) g) n)
  counts_more n so_far =
      ap (times n) noted ∙ times_noted n before (times m (row g node)) node
      ∙ ap (λ k. k + cond (nat_eq n node) (times m (row g node)) 0) so_far ∙ sym (times-row_more g node m n within)

  pub rises_in_row : Rises node before → Rises (node + 1) after
  rises_in_row so_far = subst (Rises (node + 1)) (sym noted) (rises_more node (times m (row g node)) before so_far)

-- rows within a graph rise, and past its end there are none
pub ascending_everywhere : (us : List (List ℕ)) (nodes limit : ℕ) → length us ≡ nodes → ((m : ℕ) → m < nodes → Rises limit (row us m)) → (m : ℕ) → IsNonDecreasing (row us m)
ascending_everywhere us nodes limit same rise m =
    ⊎_elim (λ lt. (rise m lt).ascending) (λ past. (rises_none (row us m) (get_or_past us m [] (omega arith))).ascending) (cases_lt m nodes)
