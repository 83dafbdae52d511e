-- The rows of a graph as room for the users of its users.
use Rattle.std.proofs.Common.{◌≡◌, ℕ, zero, suc, ◌+◌, ◌-◌, ◌<◌, ◌≤◌, true, cond, inl, inr, nat_eq, nat_lt, List, [], ◌∷◌, length, take, drop, slice_index, sum_by, count_by, take_all, length-take-le, length-drop, refl, sym, ap, ◌∙◌, arith, ltb-true, lt-ltb, le-ltb, eq-eqb, ne_eqb}
use Rattle.std.specs.Prelude.{slice_range}
use Rattle.std.specs.List.{list_all}
use Rattle.std.proofs.lemmas.Bool.{cases_order, and_parts}
use Rattle.std.proofs.lemmas.List.{get_or_default}
use Rattle.std.proofs.lemmas.List.Sums.{sum_by-cons, sum_by_more}
use Rattle.byte_strings.specs.Pieces.{pieces, AreEnds}
use Rattle.byte_strings.proofs.PieceLemmas.{length-pieces}
use Rattle.mk_graph.specs.Edges.{row, times, is_closed}
use Rattle.mk_graph.specs.Users.{HasUsers, AreStarts, HasRoom}
use Rattle.mk_graph.proofs.RowLemmas.{times-cons}
use Rattle.mk_names.proofs.TextLemmas.{row_at}
use Rattle.mk_graph.proofs.CycleLemmas.{closed_row}

-- how many numbers of a list are below one
abbrev pub below : (k : ℕ) (xs : List ℕ) → ℕ
below k xs = count_by (λ x. nat_lt x k) xs

below-cons : (k x : ℕ) (xs : List ℕ) → below k (x ∷ xs) ≡ cond (nat_lt x k) 1 0 + below k xs
below-cons k x xs = sum_by-cons (λ y. cond (nat_lt y k) 1 0) x xs

below_zero : (xs : List ℕ) → below 0 xs ≡ 0
below_zero [] = omega arith
below_zero (x ∷ xs) = rw (below-cons 0 x xs, le-ltb x 0 (omega arith)) (let rest = below_zero xs in omega arith)

one_below : (k x : ℕ) → cond (nat_lt x (k + 1)) 1 0 ≡ cond (nat_lt x k) 1 0 + cond (nat_eq k x) 1 0
one_below k x = elim (cases_order x k) [
  | inl e ↦ rw (lt-ltb x (k + 1) (omega arith), le-ltb x k (omega arith), eq-eqb k x (sym e)) (omega arith)
  | inr (inl less) ↦ rw (lt-ltb x (k + 1) (omega arith), lt-ltb x k less, ne_eqb k x (λ e. absurd (omega arith))) (omega arith)
  | inr (inr more) ↦ rw (le-ltb x (k + 1) (omega arith), le-ltb x k (omega arith), ne_eqb k x (λ e. absurd (omega arith))) (omega arith)
]

pub below_more : (k : ℕ) (xs : List ℕ) → below (k + 1) xs ≡ below k xs + times k xs
below_more k [] = omega arith
below_more k (x ∷ xs) =
    let a = below-cons (k + 1) x xs in
    let b = below-cons k x xs in
    let t = times-cons k x xs in
    let one = one_below k x in
    let rest = below_more k xs in
    omega arith

pub all_below : (n : ℕ) (xs : List ℕ) → list_all (λ x. nat_lt x n) xs ≡ true → below n xs ≡ length xs
all_below n [] h = omega arith
all_below n (x ∷ xs) h =
    let p = and_parts (nat_lt x n) (list_all (λ y. nat_lt y n) xs) h in
    rw (below-cons n x xs, lt-ltb x n (ltb-true x n p.0)) (let rest = all_below n xs p.1 in omega arith)

-- the users of all nodes name a node as often as its row names nodes
named_in : (g : List (List ℕ)) (n : ℕ) (xs : List ℕ) → ((m : ℕ) → m < length g → times n (row g m) ≡ times m xs)
    → (k : ℕ) → k ≤ length g → sum_by (times n) (take k g) ≡ below k xs
named_in g n xs same zero within = sym (below_zero xs)
named_in g n xs same (suc k) within =
    let e : suc k ≡ k + 1 = omega arith in
    let so_far = named_in g n xs same k (omega arith) in
    let more = sum_by_more (times n) g k [] (omega arith) in
    let one = same k (omega arith) in
    let next = below_more k xs in
    ap (λ j. sum_by (times n) (take j g)) e ∙ (let s : sum_by (times n) (take (k + 1) g) ≡ below (k + 1) xs = omega arith in s) ∙ ap (λ j. below j xs) (sym e)

pub range_length : (xs : List ℕ) (a b : ℕ) → a ≤ b → b ≤ length xs → length (slice_range xs a b) ≡ b - a
range_length xs a b rising within = length-take-le (b - a) (drop a xs) (let l = length-drop a xs in omega arith)

pub own_room : (rows g : List (List ℕ)) (numbers ends : List ℕ) → AreEnds (length numbers) 0 ends → pieces numbers 0 ends ≡ rows → is_closed rows ≡ true → HasUsers rows g
    → (n : ℕ) → n < length g → slice_index ends n ≡ slice_index (0 ∷ ends) n + sum_by (times n) g
own_room rows g numbers ends are shown closed users n inside =
    let many : length ends ≡ length rows = sym (length-pieces numbers 0 ends) ∙ ap length shown in
    let nodes = users.nodes in
    let start = slice_index (0 ∷ ends) n in
    let end = slice_index ends n in
    let here : n < length ends = omega arith in
    let found = row_at numbers ends n start end are here refl (get_or_default ends n 0 end here) in
    let own : slice_range numbers start end ≡ row rows n = found.2 ∙ ap (λ l. row l n) shown in
    let long : length (row rows n) ≡ end - start = sym (ap length own) ∙ range_length numbers start end found.0 found.1 in
    let all : below (length rows) (row rows n) ≡ length (row rows n) = all_below (length rows) (row rows n) (closed_row rows closed n (omega arith)) in
    let named : sum_by (times n) (take (length g) g) ≡ below (length g) (row rows n)
    = named_in g n (row rows n) (λ m less. users.counts n m (omega arith)) (length g) (omega arith) in
    let whole : sum_by (times n) g ≡ below (length rows) (row rows n)
    = ap (sum_by (times n)) (sym (take_all (length g) g (omega arith))) ∙ named ∙ ap (λ k. below k (row rows n)) nodes in
    let rising = found.0 in
    omega arith

pub room_of_own : (rows g : List (List ℕ)) (numbers ends starts : List ℕ) → AreEnds (length numbers) 0 ends → pieces numbers 0 ends ≡ rows → is_closed rows ≡ true → HasUsers rows g
    → AreStarts ends starts → HasRoom g (length numbers) starts
room_of_own rows g numbers ends starts are shown closed users starts_are = record {
  ends = ends;
  are_ends = are;
  nodes = sym (length-pieces numbers 0 ends) ∙ ap length shown ∙ sym users.nodes;
  rooms = own_room rows g numbers ends are shown closed users;
  are_starts = starts_are;
}
