-- Joined rows, rows as sets, and that cycles depend on members alone.
use Rattle.std.proofs.Common.{◌≡◌, ℕ, ◌+◌, ◌<◌, ◌≤◌, Bool, true, false, ◌||◌, nat_eq, nat_lt, List, [], ◌∷◌, ◌++◌, length, length-append, take, suc, zero, refl, sym, ap, ◌∙◌, subst, ⊎_elim, arith, eq-eqb, eqb-true, lt-ltb, ltb-true, true≢false}
use Rattle.std.proofs.lemmas.Bool.{and_from, or_cases, cases_lt}
use Rattle.std.proofs.lemmas.Cmp.{nat_eq_equiv}
use Rattle.std.proofs.lemmas.List.{get_or_past, take_more}
use Rattle.std.proofs.lemmas.List.Kept.{Contains-dedup_nat, Contains-from_dedup}
use Rattle.std.proofs.lemmas.Map.Views.{Contains-from_any, list_any-from_Contains}
use Rattle.std.proofs.lemmas.List.Folds.{list_any-append}
use Rattle.std.specs.List.{list_all, dedup}
use Rattle.std.specs.List.Sorted.{IsStrictlyIncreasing}
use Rattle.mk_graph.specs.Edges.{row, has, is_closed}
use Rattle.mk_graph.specs.Cycle.{IsChain, IsCycle, HasCycle}
use Rattle.mk_graph.specs.Counted.{joined, counting, AreSets}
use Rattle.mk_graph.proofs.JoinLemmas.{length-joined, row-joined}
use Rattle.mk_graph.proofs.RowLemmas.{list_all-has}
use Rattle.mk_graph.proofs.CycleLemmas.{closed_row}

pub has-joined : (hard soft : List (List ℕ)) → length soft ≡ length hard → (n m : ℕ) → has (row (joined hard soft) n) m ≡ (has (row hard n) m || has (row soft n) m)
has-joined hard soft same n m = ap (λ l. has l m) (row-joined hard soft same n) ∙ list_any-append (nat_eq m) (row hard n) (row soft n)

-- a cycle of one graph is one of each that has its edges
pub IsChain-wider : (g h : List (List ℕ)) → ((n m : ℕ) → has (row g n) m ≡ true → has (row h n) m ≡ true) → (n : ℕ) (xs : List ℕ) → IsChain g n xs → IsChain h n xs
IsChain-wider g h wider n [] chain = tt
IsChain-wider g h wider n (m ∷ more) chain = (wider n m chain.0, IsChain-wider g h wider m more chain.1)

pub IsCycle-wider : (g h : List (List ℕ)) → ((n m : ℕ) → has (row g n) m ≡ true → has (row h n) m ≡ true) → (cycle : List ℕ) → IsCycle g cycle → IsCycle h cycle
IsCycle-wider g h wider cycle c = record {
  first = c.first;
  between = c.between;
  whole = c.whole;
  chain = IsChain-wider g h wider c.first (c.between ++ c.first ∷ []) c.chain;
  once = c.once;
  least = c.least;
}

pub HasCycle-wider : (g h : List (List ℕ)) → ((n m : ℕ) → has (row g n) m ≡ true → has (row h n) m ≡ true) → HasCycle g → HasCycle h
HasCycle-wider g h wider c = (c.0, IsCycle-wider g h wider c.0 c.1)

pub wider_joined : (hard soft : List (List ℕ)) → length soft ≡ length hard → (n m : ℕ) → has (row hard n) m ≡ true → has (row (joined hard soft) n) m ≡ true
wider_joined hard soft same n m h = has-joined hard soft same n m ∙ ap (λ b. b || has (row soft n) m) h

-- ---- closed graphs, by members

list_all_from_has : (p : ℕ → Bool) (xs : List ℕ) → ((n : ℕ) → has xs n ≡ true → p n ≡ true) → list_all p xs ≡ true
list_all_from_has p [] each = refl
list_all_from_has p (x ∷ xs) each =
    and_from (p x) (list_all p xs) (each x (ap (λ b. b || has xs x) (same x)))
    (list_all_from_has p xs (λ n h. each n (ap (λ b. nat_eq n x || b) h ∙ or_true (nat_eq n x))))
  where
    same : (n : ℕ) → nat_eq n n ≡ true
    same n = eq-eqb n n refl

    or_true : (b : Bool) → (b || true) ≡ true
    or_true true = refl
    or_true false = refl

list_all_rows : (p : List ℕ → Bool) (g : List (List ℕ)) → ((n : ℕ) → n < length g → p (row g n) ≡ true) → list_all p g ≡ true
list_all_rows p [] each = refl
list_all_rows p (ns ∷ g) each = and_from (p ns) (list_all p g) (each 0 (omega arith)) (list_all_rows p g (λ n h. each (suc n) (omega arith)))

pub below_from_closed : (g : List (List ℕ)) → is_closed g ≡ true → (n m : ℕ) → has (row g n) m ≡ true → m < length g
below_from_closed g closed n m h = ⊎_elim inside past (cases_lt n (length g))
  where
    inside : n < length g → m < length g
    inside lt = ltb-true m (length g) (list_all-has (λ k. nat_lt k (length g)) (row g n) m (closed_row g closed n lt) h)

    past : length g ≤ n → m < length g
    past le = absurd (true≢false (sym (subst (λ l. has l m ≡ true) (get_or_past g n [] le) h)))

pub closed_from_below : (g : List (List ℕ)) → ((n m : ℕ) → has (row g n) m ≡ true → m < length g) → is_closed g ≡ true
closed_from_below g below =
    list_all_rows (λ ns. list_all (λ n. nat_lt n (length g)) ns) g (λ n h. list_all_from_has (λ k. nat_lt k (length g)) (row g n) (λ m there. lt-ltb m (length g) (below n m there)))

pub closed_joined : (hard soft : List (List ℕ)) → length soft ≡ length hard → is_closed hard ≡ true → is_closed soft ≡ true → is_closed (joined hard soft) ≡ true
closed_joined hard soft same h s = closed_from_below (joined hard soft) below
  where
    below : (n m : ℕ) → has (row (joined hard soft) n) m ≡ true → m < length (joined hard soft)
    below n m there =
        ⊎_elim (λ a. let b = below_from_closed hard h n m a in let l = length-joined hard soft in omega arith)
        (λ a. let b = below_from_closed soft s n m a in let l = length-joined hard soft in omega arith)
        (or_cases (has (row hard n) m) (has (row soft n) m) (sym (has-joined hard soft same n m) ∙ there))

-- of the edges that count
pub length-counting : (hard soft : List (List ℕ)) (dropped : Bool) → length (counting hard soft dropped) ≡ length hard
length-counting hard soft true = refl
length-counting hard soft false = length-joined hard soft

pub closed_counting : (hard soft : List (List ℕ)) (dropped : Bool) → length soft ≡ length hard → is_closed hard ≡ true → is_closed soft ≡ true
    → is_closed (counting hard soft dropped) ≡ true
closed_counting hard soft true same of_hard of_soft = of_hard
closed_counting hard soft false same of_hard of_soft = closed_joined hard soft same of_hard of_soft

-- ---- rows made one by one

-- what relates rows at each place relates them with one more
zip_more : (P : List ℕ → List ℕ → Type 0) (xs ys : List (List ℕ)) (x y : List ℕ) → length xs ≡ length ys → ((n : ℕ) → P (row xs n) (row ys n)) → P x y → P [] []
    → (n : ℕ) → P (row (xs ++ x ∷ []) n) (row (ys ++ y ∷ []) n)
zip_more P [] [] x y same each one none zero = one
zip_more P [] [] x y same each one none (suc n) = none
zip_more P [] (b ∷ ys) x y same each one none n = absurd (omega arith)
zip_more P (a ∷ xs) [] x y same each one none n = absurd (omega arith)
zip_more P (a ∷ xs) (b ∷ ys) x y same each one none zero = each 0
zip_more P (a ∷ xs) (b ∷ ys) x y same each one none (suc n) = zip_more P xs ys x y (omega arith) (λ k. each (suc k)) one none n

pub sets_more : (g rows : List (List ℕ)) (i : ℕ) (set : List ℕ) → i < length g → AreSets (take i g) rows → ((m : ℕ) → has set m ≡ has (row g i) m) → IsStrictlyIncreasing set
    → AreSets (take (i + 1) g) (rows ++ set ∷ [])
sets_more g rows i set h are members ascending = record {
  nodes = length-append rows (set ∷ []) ∙ ap (λ k. k + 1) are.nodes ∙ sym (ap length longer ∙ length-append (take i g) (row g i ∷ []));
  members = λ n m. zip_more (λ a b. has b m ≡ has a m) (take i g) rows (row g i) set (sym are.nodes) (λ k. are.members k m) (members m) refl n
      ∙ ap (λ l. has (row l n) m) (sym longer);
  ascending = zip_more (λ a b. IsStrictlyIncreasing b) (take i g) rows (row g i) set (sym are.nodes) are.ascending ascending (λ k lt. absurd (omega arith));
}
  where
    longer : take (i + 1) g ≡ take i g ++ row g i ∷ []
    longer = take_more g i [] h

-- ---- a row as a set

pub has-dedup : (xs : List ℕ) (n : ℕ) → has (dedup nat_eq xs) n ≡ has xs n
has-dedup xs n = same_answer (has (dedup nat_eq xs) n) (has xs n)
    (λ h. list_any-from_Contains nat_eq_equiv n xs (Contains-from_dedup nat_eq xs n (Contains-from_any (λ x y e. eqb-true x y e) n (dedup nat_eq xs) h)))
    (λ h. list_any-from_Contains nat_eq_equiv n (dedup nat_eq xs) (Contains-dedup_nat xs n (Contains-from_any (λ x y e. eqb-true x y e) n xs h)))
  where
    same_answer : (a b : Bool) → (a ≡ true → b ≡ true) → (b ≡ true → a ≡ true) → a ≡ b
    same_answer true b f g = sym (f refl)
    same_answer false true f g = g refl
    same_answer false false f g = refl
