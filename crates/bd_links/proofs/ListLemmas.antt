-- How often a number is in a list, and lists without a number.
use Rattle.std.proofs.Common.{◌≡◌, ◌≢◌, ℕ, zero, suc, ◌+◌, ◌<◌, ◌≤◌, Bool, true, false, cond, not, ◌||◌, nat_eq, List, [], ◌∷◌, ◌++◌, length, take, drop, get_or, slice_get, Some, refl, sym, ap, ◌∙◌, ⊎_elim, arith, eq-eqb, ne_eqb}
use Rattle.std.proofs.lemmas.Bool.{cases_eq, cases_lt}
use Rattle.std.proofs.lemmas.List.{take-append-drop, drop_more, get_or_past}
use Rattle.std.proofs.lemmas.List.Elements.{filter-append}
use Rattle.std.proofs.lemmas.Option.{slice_get_within, get_or_from_slice_get}
use Rattle.std.proofs.lemmas.List.Sums.{sum_by-cons, sum_by-append, sum_by_more, sum_by-take-le}
use Rattle.std.proofs.lemmas.List.Folds.{list_any_more}
use Rattle.mk_graph.specs.Edges.{times, has}
use Rattle.bd_links.specs.SixLists.{without}

pub times-cons : (n x : ℕ) (xs : List ℕ) → times n (x ∷ xs) ≡ cond (nat_eq n x) 1 0 + times n xs
times-cons n x xs = sum_by-cons (λ y. cond (nat_eq n y) 1 0) x xs

pub times-append : (n : ℕ) (xs ys : List ℕ) → times n (xs ++ ys) ≡ times n xs + times n ys
times-append n xs ys = sum_by-append (λ y. cond (nat_eq n y) 1 0) xs ys

pub times-head : (n : ℕ) (xs : List ℕ) → times n (n ∷ xs) ≡ 1 + times n xs
times-head n xs = times-cons n n xs ∙ ap (λ b. cond b 1 0 + times n xs) (eq-eqb n n refl)

pub times-other : (n x : ℕ) (xs : List ℕ) → n ≢ x → times n (x ∷ xs) ≡ times n xs
times-other n x xs ne = times-cons n x xs ∙ ap (λ b. cond b 1 0 + times n xs) (ne_eqb n x ne) ∙ none_more (times n xs)
  where
    none_more : (k : ℕ) → cond {A = ℕ} false 1 0 + k ≡ k
    none_more k = omega arith

-- a list that has no n begins with another number, and has no n behind it
pub apart : (n x : ℕ) (xs : List ℕ) → times n (x ∷ xs) ≡ 0 → (n ≢ x) × (times n xs ≡ 0)
apart n x xs none = ⊎_elim (λ e. absurd (same e)) (λ ne. (ne, sym (times-other n x xs ne) ∙ none)) (cases_eq n x)
  where
    same : n ≡ x → ⊥
    same e = let h = times-head n xs in let k : times n (n ∷ xs) ≡ 0 = ap (λ y. times n (y ∷ xs)) e ∙ none in omega arith

pub without-head : (n : ℕ) (xs : List ℕ) → without n (n ∷ xs) ≡ without n xs
without-head n xs = rw (eq-eqb n n refl) refl

pub without-other : (n x : ℕ) (xs : List ℕ) → n ≢ x → without n (x ∷ xs) ≡ x ∷ without n xs
without-other n x xs ne = rw (ne_eqb n x ne) refl

pub without-none : (n : ℕ) (xs : List ℕ) → times n xs ≡ 0 → without n xs ≡ xs
without-none n [] none = refl
without-none n (x ∷ xs) none = let h = apart n x xs none in without-other n x xs h.0 ∙ ap (λ l. x ∷ l) (without-none n xs h.1)

pub times-without_same : (n : ℕ) (xs : List ℕ) → times n (without n xs) ≡ 0
times-without_same n [] = refl
times-without_same n (x ∷ xs) = ⊎_elim (same (times-without_same n xs)) (other (times-without_same n xs)) (cases_eq n x)
  where
    same : times n (without n xs) ≡ 0 → n ≡ x → times n (without n (x ∷ xs)) ≡ 0
    same rest e = ap (λ y. times n (without n (y ∷ xs))) (sym e) ∙ ap (times n) (without-head n xs) ∙ rest

    other : times n (without n xs) ≡ 0 → n ≢ x → times n (without n (x ∷ xs)) ≡ 0
    other rest ne = ap (times n) (without-other n x xs ne) ∙ times-other n x (without n xs) ne ∙ rest

pub times-without_other : (m n : ℕ) (xs : List ℕ) → m ≢ n → times m (without n xs) ≡ times m xs
times-without_other m n [] apart_from = refl
times-without_other m n (x ∷ xs) apart_from = let rest = times-without_other m n xs apart_from in ⊎_elim (same rest) (other rest) (cases_eq n x)
  where
    same : times m (without n xs) ≡ times m xs → n ≡ x → times m (without n (x ∷ xs)) ≡ times m (x ∷ xs)
    same rest e =
        ap (λ y. times m (without n (y ∷ xs))) (sym e) ∙ ap (times m) (without-head n xs) ∙ rest
        ∙ sym (times-other m n xs apart_from) ∙ ap (λ y. times m (y ∷ xs)) e

    other : times m (without n xs) ≡ times m xs → n ≢ x → times m (without n (x ∷ xs)) ≡ times m (x ∷ xs)
    other rest ne =
        ap (times m) (without-other n x xs ne) ∙ times-cons m x (without n xs) ∙ ap (λ k. cond (nat_eq m x) 1 0 + k) rest ∙ sym (times-cons m x xs)

pub without-append : (n : ℕ) (xs ys : List ℕ) → without n (xs ++ ys) ≡ without n xs ++ without n ys
without-append n xs ys = filter-append (λ m. not (nat_eq n m)) xs ys

-- ---- places

pub parts_at : (xs : List ℕ) (k x : ℕ) → slice_get xs k ≡ Some x → xs ≡ take k xs ++ x ∷ drop (k + 1) xs
parts_at xs k x there =
    let within = slice_get_within xs k x there in
    let is = get_or_from_slice_get xs k x 0 there in
    sym (take-append-drop k xs) ∙ ap (λ l. take k xs ++ l) (drop_more xs k 0 within ∙ ap (λ y. y ∷ drop (k + 1) xs) is)

pub slice_get-drop : {A : Type 0} (i : ℕ) (xs : List A) → slice_get (drop i xs) 0 ≡ slice_get xs i
slice_get-drop zero xs = refl
slice_get-drop (suc i) [] = refl
slice_get-drop (suc i) (x ∷ xs) = slice_get-drop i xs

-- ---- how often a number is in the front of a list, and whether

pub times-more : (n : ℕ) (xs : List ℕ) (i : ℕ) → i < length xs → times n (take (i + 1) xs) ≡ times n (take i xs) + cond (nat_eq n (get_or xs i 0)) 1 0
times-more n xs i h = sum_by_more (λ y. cond (nat_eq n y) 1 0) xs i 0 h

pub has-more : (n : ℕ) (xs : List ℕ) (i : ℕ) → i < length xs → has (take (i + 1) xs) n ≡ (has (take i xs) n || nat_eq n (get_or xs i 0))
has-more n xs i h = list_any_more (nat_eq n) xs i 0 h

-- a number at a place is counted once more there
pub times_room : (xs : List ℕ) (i : ℕ) → i < length xs → times (get_or xs i 0) (take i xs) + 1 ≤ times (get_or xs i 0) xs
times_room xs i h =
    let more = times-more (get_or xs i 0) xs i h in
    let one = eq-eqb (get_or xs i 0) (get_or xs i 0) refl in
    let counted : times (get_or xs i 0) (take (i + 1) xs) ≡ times (get_or xs i 0) (take i xs) + 1 = more ∙ ap (λ b. times (get_or xs i 0) (take i xs) + cond b 1 0) one in
    let part = sum_by-take-le (λ y. cond (nat_eq (get_or xs i 0) y) 1 0) xs (i + 1) in
    omega arith

pub has-at : (xs : List ℕ) (i : ℕ) → i < length xs → has xs (get_or xs i 0) ≡ true
has-at [] i h = absurd (omega arith)
has-at (x ∷ xs) zero h = ap (λ b. b || has xs x) (eq-eqb x x refl)
has-at (x ∷ xs) (suc i) h = ap (λ b. nat_eq (get_or xs i 0) x || b) (has-at xs i (omega arith)) ∙ or_true (nat_eq (get_or xs i 0) x)
  where
    or_true : (b : Bool) → (b || true) ≡ true
    or_true true = refl
    or_true false = refl

-- a place that holds something is there
pub below_from_positive : (xs : List ℕ) (i : ℕ) → 1 ≤ get_or xs i 0 → i < length xs
below_from_positive xs i h = ⊎_elim (λ lt. lt) (λ past. let z = get_or_past xs i 0 past in absurd (omega arith)) (cases_lt i (length xs))
