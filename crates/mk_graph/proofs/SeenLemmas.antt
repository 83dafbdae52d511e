-- How far rows were seen.
use Rattle.std.proofs.Common.{◌≡◌, ◌≢◌, ℕ, ◌+◌, ◌-◌, ◌<◌, ◌≤◌, Bool, true, ◌||◌, List, ◌∷◌, ◌++◌, length, slice_index, sym, ap, ◌∙◌, ⊎_elim, arith, ne_eqb}
use Rattle.std.proofs.lemmas.Bool.{cases_eq, cases_lt}
use Rattle.std.proofs.lemmas.List.{get_or_append_left, get_or-append-add}
use Rattle.std.specs.List.{list_all}
use Rattle.mk_graph.specs.Counted.{joined}
use Rattle.mk_graph.specs.Edges.{row, has}
use Rattle.mk_graph.specs.Watching.{is_passed, IsSeen}
use Rattle.mk_graph.proofs.JoinLemmas.{row-joined}
use Rattle.mk_graph.proofs.WatchLemmas.{all_from}

-- the number that a row was seen down to was passed meanwhile
pub seen_on : (marks : List Bool) (ns : List ℕ) (place p : ℕ) → IsSeen marks ns place p → is_passed marks p ≡ true
    → (k : ℕ) → place ≤ k → k < length ns → is_passed marks (slice_index ns k) ≡ true
seen_on marks ns place p seen was k le within = ⊎_elim
    (λ e. ap (λ i. is_passed marks (slice_index ns i)) e ∙ ap (is_passed marks) seen.number ∙ was)
    (λ off. seen.behind k (omega arith) within)
    (cases_eq k place)

-- the row of a node by two graphs together
pub row_of_both : (first second : List (List ℕ)) → length second ≡ length first → (n : ℕ) (xs ys : List ℕ) → xs ≡ row first n → ys ≡ row second n → row (joined first second) n ≡ xs ++ ys
row_of_both first second same n xs ys a b = row-joined first second same n ∙ (λ i. sym a i ++ sym b i)

-- two rows were seen whole
module _ (marks : List Bool) (first second : List ℕ) (end behind : ℕ) (is_behind : behind ≡ end - length first)
    (seen : (k : ℕ) → end ≤ k → k < length (first ++ second) → is_passed marks (slice_index (first ++ second) k) ≡ true)
    (in_first : (k : ℕ) → k < end - behind → is_passed marks (slice_index first k) ≡ true)
    (in_second : (k : ℕ) → k < behind → is_passed marks (slice_index second k) ≡ true) where
  before : (k : ℕ) → k < end → is_passed marks (slice_index (first ++ second) k) ≡ true
  before k lt = ⊎_elim
      (λ known. ap (is_passed marks) (get_or_append_left first second 0 k known) ∙ in_first k (omega arith))
      (λ le.
      let j : ℕ = k - length first in
      let e : k ≡ length first + j = omega arith in
      ap (λ i. is_passed marks (slice_index (first ++ second) i)) e ∙ ap (is_passed marks) (get_or-append-add first second j 0) ∙ in_second j (omega arith))
      (cases_lt k (length first))

  pub all_of_both : list_all (is_passed marks) (first ++ second) ≡ true
  all_of_both = all_from (is_passed marks) (first ++ second) (λ k within. ⊎_elim (λ lt. before k lt) (λ le. seen k le within) (cases_lt k end))

-- the first node of a list was taken out: the others stand where they stood
pub others_taken : (lists lists' : List (List ℕ)) (at node : ℕ) → row lists at ≡ node ∷ row lists' at → ((p : ℕ) → p ≢ at → row lists' p ≡ row lists p)
    → (p n : ℕ) → n ≢ node → has (row lists' p) n ≡ has (row lists p) n
others_taken lists lists' at node was elsewhere p n off = ⊎_elim
    (λ e. ap (λ k. has (row lists' k) n) e ∙ sym (ap (λ k. has (row lists k) n) e ∙ ap (λ l. has l n) was ∙ ap (λ b. b || has (row lists' at) n) (ne_eqb n node off)))
    (λ apart. ap (λ l. has l n) (elsewhere p apart))
    (cases_eq p at)
