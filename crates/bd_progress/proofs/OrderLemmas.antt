-- Edges that count make no cycle.
use Rattle.std.proofs.Common.{◌≡◌, ℕ, suc, ◌<◌, Bool, true, false, ◌||◌, nat_eq, nat_lt, List, [], ◌∷◌, ◌++◌, length, get_or, refl, sym, ap, ◌∙◌, inl, inr, arith, eq-eqb, ltb-true, lt-ltb}
use Rattle.std.proofs.lemmas.Bool.{and_from}
use Rattle.std.proofs.lemmas.List.Folds.{list_any-append}
use Rattle.std.specs.List.{list_all}
use Rattle.mk_graph.specs.Edges.{row, has, is_closed}
use Rattle.mk_graph.specs.Cycle.{IsChain, HasCycle}
use Rattle.mk_graph.specs.Counted.{IsDropped, counting}
use Rattle.mk_graph.proofs.RowLemmas.{list_all-has}
use Rattle.mk_graph.proofs.JoinLemmas.{length-joined, row-joined}
use Rattle.mk_graph.proofs.CycleLemmas.{closed_row}
use Rattle.bd_progress.specs.Graphs.{CountedAreOrdered}

-- ---- graphs whose rows have the same numbers have the same cycles

chain_of : (g h : List (List ℕ)) → ((n m : ℕ) → has (row h n) m ≡ has (row g n) m) → (n : ℕ) (xs : List ℕ) → IsChain h n xs → IsChain g n xs
chain_of g h members n [] chain = tt
chain_of g h members n (x ∷ xs) chain = (sym (members n x) ∙ chain.0, chain_of g h members x xs chain.1)

cycle_of : (g h : List (List ℕ)) → ((n m : ℕ) → has (row h n) m ≡ has (row g n) m) → HasCycle h → HasCycle g
cycle_of g h members found =
    let c = found.1 in (
      found.0,
      record {
        first = c.first;
        between = c.between;
        whole = c.whole;
        chain = chain_of g h members c.first (c.between ++ c.first ∷ []) c.chain;
        once = c.once;
        least = c.least;
      },
    )

-- ---- rows of numbers of nodes

or_true : (b : Bool) → (b || true) ≡ true
or_true true = refl
or_true false = refl

all_from_has : (p : ℕ → Bool) (xs : List ℕ) → ((m : ℕ) → has xs m ≡ true → p m ≡ true) → list_all p xs ≡ true
all_from_has p [] each = refl
all_from_has p (x ∷ xs) each =
    and_from (p x) (list_all p xs) (each x (ap (λ b. b || has xs x) (eq-eqb x x refl)))
    (all_from_has p xs (λ m there. each m (ap (λ b. nat_eq m x || b) there ∙ or_true (nat_eq m x))))

all_from_places : (p : List ℕ → Bool) (g : List (List ℕ)) → ((n : ℕ) → n < length g → p (get_or g n []) ≡ true) → list_all p g ≡ true
all_from_places p [] each = refl
all_from_places p (ns ∷ g) each =
    and_from (p ns) (list_all p g) (each 0 (omega arith)) (all_from_places p g (λ n lt. each (suc n) (omega arith)))

closed_from : (g : List (List ℕ)) → ((n m : ℕ) → n < length g → has (row g n) m ≡ true → m < length g) → is_closed g ≡ true
closed_from g each =
    all_from_places (λ ns. list_all (λ m. nat_lt m (length g)) ns) g
    (λ n lt. all_from_has (λ m. nat_lt m (length g)) (row g n) (λ m there. lt-ltb m (length g) (each n m lt there)))

within : (g : List (List ℕ)) → is_closed g ≡ true → (n m : ℕ) → n < length g → has (row g n) m ≡ true → m < length g
within g closed n m lt there = ltb-true m (length g) (list_all-has (λ k. nat_lt k (length g)) (row g n) m (closed_row g closed n lt) there)

-- ---- the edges that count

module _ (hard soft : List (List ℕ)) (hard_closed : is_closed hard ≡ true) (soft_closed : is_closed soft ≡ true) (long : length soft ≡ length hard)
    (acyclic : HasCycle hard → ⊥) where
  counting_length : (dropped : Bool) → length (counting hard soft dropped) ≡ length hard
  counting_length true = refl
  counting_length false = length-joined hard soft

  counting_within : (dropped : Bool) (n m : ℕ) → n < length hard → has (row (counting hard soft dropped) n) m ≡ true → m < length hard
  counting_within true n m lt there = within hard hard_closed n m lt there
  counting_within false n m lt there = by (has (row hard n) m) refl
    where
      by : (b : Bool) → has (row hard n) m ≡ b → m < length hard
      by true e = within hard hard_closed n m lt e
      by false e =
          let of_soft : has (row soft n) m ≡ true
          = ap (λ b. b || has (row soft n) m) (sym e) ∙ sym (list_any-append (nat_eq m) (row hard n) (row soft n))
          ∙ sym (ap (λ xs. has xs m) (row-joined hard soft long n)) ∙ there in
          let in_soft = within soft soft_closed n m (omega arith) of_soft in
          omega arith

  counting_acyclic : (dropped : Bool) → IsDropped hard soft dropped → HasCycle (counting hard soft dropped) → ⊥
  counting_acyclic true is found = acyclic found
  counting_acyclic false (inl none) found = none found
  counting_acyclic false (inr cycle) found = acyclic cycle

pub counted_are_ordered : CountedAreOrdered
counted_are_ordered = λ hard soft counted dropped hard_closed soft_closed long acyclic is sets.
    let whole : length counted ≡ length hard = sets.nodes ∙ counting_length hard soft hard_closed soft_closed long acyclic dropped in
    record {
      closed = closed_from counted (λ n m lt there.
          let below = counting_within hard soft hard_closed soft_closed long acyclic dropped n m (omega (arith, whole, lt)) (sym (sets.members n m) ∙ there) in
          omega (arith, whole, below));
      no_cycle = λ found. counting_acyclic hard soft hard_closed soft_closed long acyclic dropped is
          (cycle_of (counting hard soft dropped) counted (λ n m. sets.members n m) found);
    }
