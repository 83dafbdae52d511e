-- Rows of known lengths, filled from their starts on.
use Rattle.std.proofs.Common.{◌≡◌, ◌≢◌, ℕ, zero, suc, ◌+◌, ◌-◌, ◌<◌, ◌≤◌, ◌^◌, ◌⊎◌, inl, inr, cond, nat_eq, List, [], ◌∷◌, ◌++◌, length, get_or, take, drop, set, replicate, sum, sum_by, slice_index, get_or-set_same, get_or-set_other, append_assoc, refl, sym, ap, ◌∙◌, subst, ⊎_elim, arith, eq-eqb, ne_eqb}
use Rattle.std.specs.Prelude.{slice_range}
use Rattle.std.proofs.lemmas.Bool.{cases_eq, cases_order}
use Rattle.std.proofs.lemmas.List.{replicate-append-replicate, drop-drop, drop_all, take-append-drop, take_all, take_more_set}
use Rattle.std.proofs.lemmas.List.Sums.{sum_by-append, sum_by-cons, sum_by-take-le, sum_by_more, sum_by-set, count_by-le-length}
use Rattle.std.proofs.lemmas.Option.{get_or_from_slice_get}
use Rattle.byte_strings.specs.Pieces.{pieces, AreEnds}
use Rattle.byte_strings.proofs.PieceLemmas.{AreEnds-at, pieces-get, length-pieces}
use Rattle.mk_graph.specs.Edges.{row, times, AreUsers}
use Rattle.mk_graph.specs.Users.{ends_from, filled, AreStarts}
use Rattle.mk_graph.proofs.RowLemmas.{times-more, times_room, Rises, rises_none, counts_more, rises_in_row, ascending_everywhere}

-- the ends of rows
pub length-ends_from : (start : ℕ) (ns : List ℕ) → length (ends_from start ns) ≡ length ns
length-ends_from start [] = refl
length-ends_from start (n ∷ ns) = ap suc (length-ends_from (start + n) ns)

pub are_ends : (start size : ℕ) (ns : List ℕ) → size ≡ start + sum ns → AreEnds size start (ends_from start ns)
are_ends start size [] e = omega arith
are_ends start size (n ∷ ns) e = let s = sum_by-cons (λ x. x) n ns in (omega arith, are_ends (start + n) size ns (omega arith))

pub end_of_row : (start : ℕ) (ns : List ℕ) (n : ℕ) → n < length ns
    → slice_index (ends_from start ns) n ≡ slice_index (start ∷ ends_from start ns) n + slice_index ns n
end_of_row start [] n h = absurd (omega arith)
end_of_row start (m ∷ ns) zero h = refl
end_of_row start (m ∷ ns) (suc n) h = end_of_row (start + m) ns n (omega arith)

-- where a row starts
pub start_of_row : (start : ℕ) (ns : List ℕ) (n : ℕ) → n < length ns → slice_index (start ∷ ends_from start ns) n ≡ start + sum (take n ns)
start_of_row start [] n h = absurd (omega arith)
start_of_row start (m ∷ ns) zero h = let s : sum (take 0 (m ∷ ns)) ≡ 0 = refl in omega arith
start_of_row start (m ∷ ns) (suc n) h =
    let s = sum_by-cons (λ x. x) m (take n ns) in
    let rest = start_of_row (start + m) ns n (omega arith) in
    omega arith

-- one more place at which the start is written
module _ (ends now : List ℕ) (row start : ℕ) (within : row < length now) (here : start ≡ slice_index (0 ∷ ends) row) where
  pub starts_more : ((n : ℕ) → n < row → slice_index now n ≡ slice_index (0 ∷ ends) n)
      → (n : ℕ) → n < row + 1 → slice_index (set now row start) n ≡ slice_index (0 ∷ ends) n
  starts_more before n below = ⊎_elim there (λ apart. get_or-set_other now row n start 0 apart ∙ before n (omega arith)) (cases_eq n row)
    where
      there : n ≡ row → slice_index (set now row start) n ≡ slice_index (0 ∷ ends) n
      there e = ap (slice_index (set now row start)) e ∙ get_or-set_same now row start 0 within ∙ here ∙ ap (slice_index (0 ∷ ends)) (sym e)

pub rest_still : (old now : List ℕ) (row start : ℕ) → ((n : ℕ) → row ≤ n → slice_index now n ≡ slice_index old n)
    → (n : ℕ) → row + 1 ≤ n → slice_index (set now row start) n ≡ slice_index old n
rest_still old now row start behind n past = get_or-set_other now row n start 0 (λ e. absurd (omega arith)) ∙ behind n (omega arith)

-- the last row ends at the size
pub last_end : (size start : ℕ) (ends : List ℕ) → AreEnds size start ends → slice_index (start ∷ ends) (length ends) ≡ size
last_end size start [] h = h
last_end size start (end ∷ ends) h = last_end size end ends h.1

pub few_numbers : (size : ℕ) (ends : List ℕ) → AreEnds size 0 ends → slice_index (0 ∷ ends) (length ends) < 2 ^ 32 → size < 2 ^ 32
few_numbers size ends are few = let e = last_end size 0 ends are in omega arith

-- a row starts where the one before it ends, or behind that
pub starts_behind : (size start : ℕ) (ends : List ℕ) (m n : ℕ) → AreEnds size start ends → m < n → n < length ends
    → slice_index ends m ≤ slice_index (start ∷ ends) n
starts_behind size start [] m n h lt within = absurd (omega arith)
starts_behind size start (end ∷ ends) m zero h lt within = absurd (omega arith)
starts_behind size start (end ∷ ends) zero (suc n) h lt within = first size end ends n h.1 (omega arith)
  where
    first : (size start : ℕ) (ends : List ℕ) (n : ℕ) → AreEnds size start ends → n < length ends → start ≤ slice_index (start ∷ ends) n
    first size start ends zero h within = omega arith
    first size start [] (suc n) h within = absurd (omega arith)
    first size start (end ∷ ends) (suc n) h within = let e = first size end ends n h.1 (omega arith) in let b = h.0 in omega arith
starts_behind size start (end ∷ ends) (suc m) (suc n) h lt within = starts_behind size end ends m n h.1 (omega arith) (omega arith)

-- a number set at the end of a range, and one outside of it
range_apart : (xs : List ℕ) (a b i y : ℕ) → (i < a) ⊎ (b ≤ i) → slice_range (set xs i y) a b ≡ slice_range xs a b
range_apart [] a b i y h = refl
range_apart (x ∷ xs) zero zero zero y h = refl
range_apart (x ∷ xs) zero (suc b) zero y h = absurd (⊎_elim (λ l. omega arith) (λ r. omega arith) h)
range_apart (x ∷ xs) zero zero (suc i) y h = refl
range_apart (x ∷ xs) zero (suc b) (suc i) y h =
    let whole : suc b - 0 ≡ suc b = omega arith in
    let rest : b - 0 ≡ b = omega arith in
    let behind = range_apart xs zero b i y (⊎_elim (λ l. absurd (omega arith)) (λ r. inr (omega arith)) h) in
    ap (λ k. take k (x ∷ set xs i y)) whole
    ∙ ap (λ l. x ∷ l) (ap (λ k. take k (set xs i y)) (sym rest) ∙ behind ∙ ap (λ k. take k xs) rest)
    ∙ ap (λ k. take k (x ∷ xs)) (sym whole)
range_apart (x ∷ xs) (suc a) b zero y h = refl
range_apart (x ∷ xs) (suc a) zero (suc i) y h = ap (λ k. take k (drop a (set xs i y))) none ∙ ap (λ k. take k (drop a xs)) (sym none)
  where
    none : 0 - suc a ≡ 0
    none = omega arith
range_apart (x ∷ xs) (suc a) (suc b) (suc i) y h =
    ap (λ k. take k (drop a (set xs i y))) less ∙ range_apart xs a b i y (⊎_elim (λ l. inl (omega arith)) (λ r. inr (omega arith)) h) ∙ ap (λ k. take k (drop a xs)) (sym less)
  where
    less : suc b - suc a ≡ b - a
    less = omega arith

range_more : (xs : List ℕ) (a i y : ℕ) → a ≤ i → i < length xs → slice_range (set xs i y) a (i + 1) ≡ slice_range xs a i ++ y ∷ []
range_more [] a i y h within = absurd (omega arith)
range_more (x ∷ xs) zero i y h within =
    let to : i + 1 - 0 ≡ i + 1 = omega arith in
    let before : i - 0 ≡ i = omega arith in
    ap (λ k. take k (set (x ∷ xs) i y)) to ∙ take_more_set (x ∷ xs) i y within ∙ ap (λ k. take k (x ∷ xs) ++ y ∷ []) (sym before)
range_more (x ∷ xs) (suc a) zero y h within = absurd (omega arith)
range_more (x ∷ xs) (suc a) (suc i) y h within =
    ap (λ k. take k (drop a (set xs i y))) more ∙ range_more xs a i y (omega arith) (omega arith) ∙ ap (λ k. take k (drop a xs) ++ y ∷ []) (sym less)
  where
    more : suc i + 1 - suc a ≡ i + 1 - a
    more = omega arith

    less : suc i - suc a ≡ i - a
    less = omega arith

-- how often each number stands in a list, one longer
module _ (counts ns : List ℕ) (nodes i : ℕ) (within : i < length ns) (same : length counts ≡ nodes)
    (so_far : (n : ℕ) → n < nodes → slice_index counts n ≡ times n (take i ns)) where
  not_there : (n : ℕ) → n < nodes → n ≢ get_or ns i 0 → slice_index counts n ≡ times n (take (i + 1) ns)
  not_there n below apart = so_far n below ∙ sym (times-more n ns i within ∙ rw (ne_eqb n (get_or ns i 0) apart) (omega arith))

  pub counted_past : nodes ≤ get_or ns i 0 → (n : ℕ) → n < nodes → slice_index counts n ≡ times n (take (i + 1) ns)
  counted_past past n below = not_there n below (λ e. absurd (omega arith))

  pub counted_in : (y : ℕ) → get_or ns i 0 < nodes → y ≡ get_or counts (get_or ns i 0) 0 + 1
      → (n : ℕ) → n < nodes → slice_index (set counts (get_or ns i 0) y) n ≡ times n (take (i + 1) ns)
  counted_in y place more n below = ⊎_elim there (λ apart. get_or-set_other counts (get_or ns i 0) n y 0 apart ∙ not_there n below apart) (cases_eq n (get_or ns i 0))
    where
      there : n ≡ get_or ns i 0 → slice_index (set counts (get_or ns i 0) y) n ≡ times n (take (i + 1) ns)
      there e =
          let t : times n (take (i + 1) ns) ≡ times n (take i ns) + 1 = times-more n ns i within ∙ rw (eq-eqb n (get_or ns i 0) e) refl in
          let b = so_far n below in
          let c = ap (λ k. get_or counts k 0) e in
          let s = ap (λ k. get_or (set counts (get_or ns i 0) y) k 0) e ∙ get_or-set_same counts (get_or ns i 0) y 0 (omega arith) in
          omega arith

  pub sum_in : (y : ℕ) → get_or ns i 0 < nodes → y ≡ get_or counts (get_or ns i 0) 0 + 1 → sum counts ≤ i → sum (set counts (get_or ns i 0) y) ≤ i + 1
  sum_in y place more so = let s = sum_by-set (λ x. x) counts (get_or ns i 0) y 0 (omega arith) in omega arith

  -- no number stands there more often than numbers were read
  pub few : get_or ns i 0 < nodes → get_or counts (get_or ns i 0) 0 < length ns
  few place =
      let b = so_far (get_or ns i 0) place in
      let r = times_room ns i within in
      let l = count_by-le-length (nat_eq (get_or ns i 0)) ns in
      omega arith

-- one more user noted
module _ (users ends next : List ℕ) (p node : ℕ) (h : AreEnds (length users) 0 ends) (within : p < length ends) (same : length next ≡ length ends)
    (room : get_or next p 0 + 1 ≤ get_or ends p 0)
    (rows : (n : ℕ) → n < length ends → (slice_index (0 ∷ ends) n ≤ slice_index next n) × (slice_index next n ≤ slice_index ends n)) where
  pub at_within : get_or next p 0 < length users
  at_within = let e = (AreEnds-at (length users) 0 ends p h within).1 in omega arith

  next_there : get_or (set next p (get_or next p 0 + 1)) p 0 ≡ get_or next p 0 + 1
  next_there = get_or-set_same next p (get_or next p 0 + 1) 0 (omega arith)

  next_elsewhere : (n : ℕ) → n ≢ p → get_or (set next p (get_or next p 0 + 1)) n 0 ≡ get_or next n 0
  next_elsewhere n apart = get_or-set_other next p n (get_or next p 0 + 1) 0 apart

  pub filled_there : filled (set users (get_or next p 0) node) ends (set next p (get_or next p 0 + 1)) p ≡ filled users ends next p ++ node ∷ []
  filled_there =
      ap (slice_range (set users (get_or next p 0) node) (slice_index (0 ∷ ends) p)) next_there
      ∙ range_more users (slice_index (0 ∷ ends) p) (get_or next p 0) node (rows p within).0 at_within

  pub filled_elsewhere : (n : ℕ) → n < length ends → n ≢ p
      → filled (set users (get_or next p 0) node) ends (set next p (get_or next p 0 + 1)) n ≡ filled users ends next n
  filled_elsewhere n below apart =
      let r = (rows p within).0 in
      let s = (rows n below).1 in
      let outside : (get_or next p 0 < slice_index (0 ∷ ends) n) ⊎ (slice_index next n ≤ get_or next p 0)
      = ⊎_elim (λ e. absurd (apart e))
      (⊎_elim (λ lt. inr (let b = starts_behind (length users) 0 ends n p h lt within in omega arith))
      (λ lt. inl (let b = starts_behind (length users) 0 ends p n h lt below in omega arith)))
      (cases_order n p) in
      ap (slice_range (set users (get_or next p 0) node) (slice_index (0 ∷ ends) n)) (next_elsewhere n apart)
      ∙ range_apart users (slice_index (0 ∷ ends) n) (slice_index next n) (get_or next p 0) node outside

-- of the rows: before the call they are base, and before are those once so many prerequisites were noted
module _ (base before : ℕ → List ℕ) (nodes node : ℕ) (ps : List ℕ) (i : ℕ) (within : i < length ps)
    (noted : (n : ℕ) → n < nodes → before n ≡ base n ++ replicate (times n (take i ps)) node) where
  elsewhere : (n : ℕ) → n < nodes → n ≢ get_or ps i 0 → before n ≡ base n ++ replicate (times n (take (i + 1) ps)) node
  elsewhere n below apart =
      let t : times n (take (i + 1) ps) ≡ times n (take i ps) = times-more n ps i within ∙ rw (ne_eqb n (get_or ps i 0) apart) (omega arith) in
      noted n below ∙ ap (λ k. base n ++ replicate k node) (sym t)

  pub noted_past : nodes ≤ get_or ps i 0 → (n : ℕ) → n < nodes → before n ≡ base n ++ replicate (times n (take (i + 1) ps)) node
  noted_past past n below = elsewhere n below (λ e. absurd (omega arith))

  pub noted_in : (after : ℕ → List ℕ) → after (get_or ps i 0) ≡ before (get_or ps i 0) ++ node ∷ []
      → ((n : ℕ) → n < nodes → n ≢ get_or ps i 0 → after n ≡ before n)
      → (n : ℕ) → n < nodes → after n ≡ base n ++ replicate (times n (take (i + 1) ps)) node
  noted_in after here others n below = ⊎_elim there (λ apart. others n below apart ∙ elsewhere n below apart) (cases_eq n (get_or ps i 0))
    where
      there : n ≡ get_or ps i 0 → after n ≡ base n ++ replicate (times n (take (i + 1) ps)) node
      there e =
          let t : times n (take (i + 1) ps) ≡ times n (take i ps) + 1 = times-more n ps i within ∙ rw (eq-eqb n (get_or ps i 0) e) refl in
          ap after e ∙ here ∙ ap (λ k. before k ++ node ∷ []) (sym e)
          ∙ ap (λ l. l ++ node ∷ []) (noted n below)
          ∙ append_assoc (base n) (replicate (times n (take i ps)) node) (node ∷ [])
          ∙ ap (λ l. base n ++ l) (replicate-append-replicate (times n (take i ps)) 1 node ∙ ap (λ k. replicate k node) (sym t))

-- of where the next users go
module _ (ps next old : List ℕ) (nodes i : ℕ) (within : i < length ps)
    (so_far : (n : ℕ) → n < nodes → slice_index next n ≡ slice_index old n + times n (take i ps)) where
  pub some_room : (ends : List ℕ) → ((n : ℕ) → n < nodes → slice_index old n + times n ps ≤ slice_index ends n)
      → get_or ps i 0 < nodes → get_or next (get_or ps i 0) 0 + 1 ≤ get_or ends (get_or ps i 0) 0
  some_room ends enough below = let a = enough (get_or ps i 0) below in let b = so_far (get_or ps i 0) below in let r = times_room ps i within in omega arith

  -- each place lies in its row
  pub rows_still : (ends : List ℕ) → ((n : ℕ) → n < nodes → slice_index (0 ∷ ends) n ≤ slice_index old n)
      → ((n : ℕ) → n < nodes → slice_index old n + times n ps ≤ slice_index ends n)
      → (n : ℕ) → n < nodes → (slice_index (0 ∷ ends) n ≤ slice_index next n) × (slice_index next n ≤ slice_index ends n)
  rows_still ends rows enough n below =
      let a = rows n below in
      let b = so_far n below in
      let c = enough n below in
      let part = sum_by-take-le (λ y. cond (nat_eq n y) 1 0) ps i in
      (omega arith, omega arith)

  next_apart : (n : ℕ) → n < nodes → n ≢ get_or ps i 0 → slice_index next n ≡ slice_index old n + times n (take (i + 1) ps)
  next_apart n below apart =
      let t : times n (take (i + 1) ps) ≡ times n (take i ps) = times-more n ps i within ∙ rw (ne_eqb n (get_or ps i 0) apart) (omega arith) in
      let b = so_far n below in omega arith

  pub next_past : nodes ≤ get_or ps i 0 → (n : ℕ) → n < nodes → slice_index next n ≡ slice_index old n + times n (take (i + 1) ps)
  next_past past n below = next_apart n below (λ e. absurd (omega arith))

  pub next_more : get_or ps i 0 < nodes → length next ≡ nodes
      → (n : ℕ) → n < nodes → slice_index (set next (get_or ps i 0) (get_or next (get_or ps i 0) 0 + 1)) n ≡ slice_index old n + times n (take (i + 1) ps)
  next_more place same n below = ⊎_elim there (λ apart. get_or-set_other next (get_or ps i 0) n (get_or next (get_or ps i 0) 0 + 1) 0 apart ∙ next_apart n below apart) (cases_eq n (get_or ps i 0))
    where
      there : n ≡ get_or ps i 0 → slice_index (set next (get_or ps i 0) (get_or next (get_or ps i 0) 0 + 1)) n ≡ slice_index old n + times n (take (i + 1) ps)
      there e =
          let t : times n (take (i + 1) ps) ≡ times n (take i ps) + 1 = times-more n ps i within ∙ rw (eq-eqb n (get_or ps i 0) e) refl in
          let b = so_far n below in
          let c = ap (λ k. get_or next k 0) e in
          let s = ap (λ k. get_or (set next (get_or ps i 0) (get_or next (get_or ps i 0) 0 + 1)) k 0) e
          ∙ get_or-set_same next (get_or ps i 0) (get_or next (get_or ps i 0) 0 + 1) 0 (omega arith) in
          omega arith

-- how many users a node has: as often as it stands in the numbers of all rows
pub times-pieces : (n : ℕ) (numbers : List ℕ) (start : ℕ) (ends : List ℕ) → AreEnds (length numbers) start ends
    → sum_by (times n) (pieces numbers start ends) ≡ times n (drop start numbers)
times-pieces n numbers start [] h = sym (ap (times n) (drop_all start numbers (omega (arith, h))))
times-pieces n numbers start (end ∷ ends) h =
    let rising : start ≤ end = h.0 in
    let behind : drop end numbers ≡ drop (end - start) (drop start numbers)
    = ap (λ k. drop k numbers) (omega arith) ∙ sym (drop-drop (end - start) start numbers) in
    sum_by-cons (times n) (slice_range numbers start end) (pieces numbers end ends)
    ∙ ap (λ k. times n (slice_range numbers start end) + k) (times-pieces n numbers end ends h.1)
    ∙ sym (sum_by-append (λ y. cond (nat_eq n y) 1 0) (take (end - start) (drop start numbers)) (drop end numbers))
    ∙ ap (times n) (ap (λ l. take (end - start) (drop start numbers) ++ l) behind ∙ take-append-drop (end - start) (drop start numbers))

-- the row of a node before it is filled, and once all is
pub filled_none : (users ends next : List ℕ) (n : ℕ) → slice_index next n ≡ slice_index (0 ∷ ends) n → filled users ends next n ≡ []
filled_none users ends next n e = let none : slice_index next n - slice_index (0 ∷ ends) n ≡ 0 = omega arith in ap (λ k. take k (drop (slice_index (0 ∷ ends) n) users)) none

pub filled_row : (users ends next : List ℕ) (n : ℕ) → n < length ends → slice_index next n ≡ slice_index ends n → row (pieces users 0 ends) n ≡ filled users ends next n
filled_row users ends next n below whole =
    get_or_from_slice_get (pieces users 0 ends) n (slice_range users (slice_index (0 ∷ ends) n) (slice_index ends n)) [] (pieces-get users 0 ends n below)
    ∙ ap (slice_range users (slice_index (0 ∷ ends) n)) (sym whole)

-- the rows of users, once the first k nodes are noted in them
pub record Fills (g : List (List ℕ)) (k : ℕ) (users ends next : List ℕ) : Type 0 where
  pub nodes : length next ≡ length g
  pub places : (n : ℕ) → n < length g → slice_index next n ≡ slice_index (0 ∷ ends) n + sum_by (times n) (take k g)
  pub counts : (n m : ℕ) → m < length g → times n (filled users ends next m) ≡ times m (row (take k g) n)
  pub rises : (m : ℕ) → m < length g → Rises k (filled users ends next m)

pub fills_none : (g : List (List ℕ)) (users ends next : List ℕ) → length ends ≡ length g → AreStarts ends next → Fills g 0 users ends next
fills_none g users ends next same starts = record {
  nodes = starts.nodes ∙ same;
  places = λ n below. let s = starts.places n (omega arith) in omega arith;
  counts = λ n m below. ap (times n) (filled_none users ends next m (starts.places m (omega arith)));
  rises = λ m below. rises_none (filled users ends next m) (filled_none users ends next m (starts.places m (omega arith)));
}

module _ (g : List (List ℕ)) (k : ℕ) (users ends next : List ℕ) (fills : Fills g k users ends next) (as_many : length ends ≡ length g)
    (rows : (n : ℕ) → n < length g → slice_index ends n ≡ slice_index (0 ∷ ends) n + sum_by (times n) g) where
  pub within_rows : (n : ℕ) → n < length ends → slice_index (0 ∷ ends) n ≤ slice_index next n
  within_rows n below = let f = fills.places n (omega arith) in omega arith

  pub room_left : k < length g → (n : ℕ) → n < length ends → slice_index next n + times n (row g k) ≤ slice_index ends n
  room_left within n below =
      let more = sum_by_more (times n) g k [] within in
      let part = sum_by-take-le (times n) g (k + 1) in
      let f = fills.places n (omega arith) in
      let r = rows n (omega arith) in
      omega arith

  pub fills_more : (users' next' : List ℕ) → k < length g → length next' ≡ length next
      → ((n : ℕ) → n < length ends → slice_index next' n ≡ slice_index next n + times n (row g k))
      → ((n : ℕ) → n < length ends → filled users' ends next' n ≡ filled users ends next n ++ replicate (times n (row g k)) k)
      → Fills g (k + 1) users' ends next'
  fills_more users' next' within same counted noted = record {
    nodes = same ∙ fills.nodes;
    places = λ n below.
        let more = sum_by_more (times n) g k [] within in
        let b = fills.places n below in
        let c = counted n (omega arith) in
        omega arith;
    counts = λ n m below. counts_more g (filled users ends next m) (filled users' ends next' m) k within m (noted m (omega arith)) n (fills.counts n m below);
    rises = λ m below. rises_in_row g (filled users ends next m) (filled users' ends next' m) k within m (noted m (omega arith)) (fills.rises m below);
  }

  pub all_noted : length g ≤ k → AreUsers g (pieces users 0 ends)
  all_noted past =
      let whole : take k g ≡ g = take_all k g past in
      let at : (n : ℕ) → n < length g → row (pieces users 0 ends) n ≡ filled users ends next n
      = λ n below. filled_row users ends next n (omega arith) (let p = fills.places n below in let r = rows n below in let e = ap (sum_by (times n)) whole in omega arith) in
      let many : length (pieces users 0 ends) ≡ length g = length-pieces users 0 ends ∙ as_many in
      record {
        nodes = many;
        counts = λ n m below. ap (times n) (at m below) ∙ fills.counts n m below ∙ ap (λ l. times m (row l n)) whole;
        ascending = ascending_everywhere (pieces users 0 ends) (length g) k many (λ m below. subst (Rises k) (sym (at m below)) (fills.rises m below));
      }
