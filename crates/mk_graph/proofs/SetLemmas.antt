-- A graph's rows in order, as the users of its users.
use Rattle.std.proofs.Common.{◌≡◌, ℕ, ◌+◌, ◌<◌, ◌≤◌, Bool, true, false, nat_eq, List, [], ◌∷◌, length, get_or, take, slice_index, suc, refl, sym, ap, ◌∙◌, subst, ⊎_elim, arith, eq-eqb, ne_eqb}
use Rattle.std.proofs.lemmas.Bool.{cases_eq, cases_lt}
use Rattle.std.proofs.lemmas.List.{get_or_past}
use Rattle.std.proofs.lemmas.Map.Keys.{IsStrictlyIncreasing-dedup}
use Rattle.std.specs.Cmp.{nat_cmp_is}
use Rattle.std.specs.List.{dedup}
use Rattle.std.specs.List.Sorted.{IsNonDecreasing, IsStrictlyIncreasing, IsSorted}
use Rattle.std.specs.Ordering.{nat_cmp, is_lt}
use Rattle.std.specs.declared.cmp.Ordering.TheVariants.{Equal, Greater}
use Rattle.mk_graph.specs.Edges.{row, has, times, is_closed, AreUsers}
use Rattle.mk_graph.specs.Counted.{AreSets}
use Rattle.mk_graph.specs.Users.{HasUsers}
use Rattle.mk_graph.proofs.RowLemmas.{times-cons, times-more, times_room, times_from_has, times_without_has}
use Rattle.mk_graph.proofs.CountedLemmas.{below_from_closed}

-- ---- one row

-- numbers that don't fall are sorted
pub sorted_rising : (xs : List ℕ) → IsNonDecreasing xs → IsSorted nat_cmp xs
sorted_rising xs rises k d low high = by (get_or xs k d) (get_or xs (k + 1) d) (rises k (k + 1) d (omega arith) high)
  where
    by : (x y : ℕ) → x ≤ y → is_lt (nat_cmp y x) ≡ false
    by x y h = ⊎_elim
        (λ e. ap is_lt (sym (nat_cmp_is y x Equal (sym e))))
        (λ ne. ap is_lt (sym (nat_cmp_is y x Greater (omega (arith, h, ne)))))
        (cases_eq x y)

pub strict_dedup : (xs : List ℕ) → IsNonDecreasing xs → IsStrictlyIncreasing (dedup nat_eq xs)
strict_dedup xs rises = IsStrictlyIncreasing-dedup xs (sorted_rising xs rises)

-- numbers that don't fall, each of them once, ascend
pub strict_from_times : (xs : List ℕ) → IsNonDecreasing xs → ((n : ℕ) → times n xs ≤ 1) → IsStrictlyIncreasing xs
strict_from_times xs rises few k h = ⊎_elim (λ lt. lt) twice (cases_lt (slice_index xs k) (slice_index xs (k + 1)))
  where
    twice : slice_index xs (k + 1) ≤ slice_index xs k → slice_index xs k < slice_index xs (k + 1)
    twice le =
        let up = rises k (k + 1) 0 (omega arith) h in
        let e : slice_index xs (k + 1) ≡ slice_index xs k = omega arith in
        let there : times (slice_index xs (k + 1)) (take (k + 1) xs) ≡ times (slice_index xs (k + 1)) (take k xs) + 1
        = times-more (slice_index xs (k + 1)) xs k (omega arith) ∙ rw (eq-eqb (slice_index xs (k + 1)) (slice_index xs k) e) refl in
        let again = times_room xs (k + 1) h in
        let once = few (slice_index xs (k + 1)) in
        absurd (omega arith)

strict_tail : (x : ℕ) (xs : List ℕ) → IsStrictlyIncreasing (x ∷ xs) → IsStrictlyIncreasing xs
strict_tail x xs inc k h =
    let next : suc k + 1 ≡ suc (k + 1) = omega arith in
    subst (λ j. slice_index xs k < slice_index (x ∷ xs) j) next (inc (suc k) (omega arith))

-- a number below the first of ascending ones isn't there
none_below : (n : ℕ) (xs : List ℕ) → IsStrictlyIncreasing xs → (0 < length xs → n < slice_index xs 0) → times n xs ≡ 0
none_below n [] inc first = refl
none_below n (x ∷ xs) inc first =
    let lt : n < x = first (omega arith) in
    let rest = none_below n xs (strict_tail x xs inc) (λ some. let up : x < slice_index xs 0 = inc 0 (omega arith) in omega arith) in
    rw (times-cons n x xs, ne_eqb n x (λ e. absurd (omega arith))) (omega arith)

pub once_in_strict : (n : ℕ) (xs : List ℕ) → IsStrictlyIncreasing xs → times n xs ≤ 1
once_in_strict n [] inc = omega arith
once_in_strict n (x ∷ xs) inc =
    let rest = once_in_strict n xs (strict_tail x xs inc) in
    ⊎_elim there (λ apart. rw (times-cons n x xs, ne_eqb n x apart) (omega arith)) (cases_eq n x)
  where
    there : n ≡ x → times n (x ∷ xs) ≤ 1
    there e =
        let none = none_below n xs (strict_tail x xs inc) (λ some. let up : x < slice_index xs 0 = inc 0 (omega arith) in omega arith) in
        rw (times-cons n x xs, eq-eqb n x e) (omega arith)

-- where two numbers are there as often, both are or none is
pub has_by_times : (a : ℕ) (xs : List ℕ) (b : ℕ) (ys : List ℕ) → times a xs ≡ times b ys → has xs a ≡ has ys b
has_by_times a xs b ys same = by (has xs a) refl (has ys b) refl
  where
    by : (p : Bool) → has xs a ≡ p → (q : Bool) → has ys b ≡ q → has xs a ≡ has ys b
    by true e true f = e ∙ sym f
    by false e false f = e ∙ sym f
    by true e false f = let some = times_from_has a xs e in let none = times_without_has b ys f in absurd (omega arith)
    by false e true f = let none = times_without_has a xs e in let some = times_from_has b ys f in absurd (omega arith)

-- ---- graphs

-- rows that ascend are sets
pub sets_of_ascending : (g : List (List ℕ)) → ((n : ℕ) → IsStrictlyIncreasing (row g n)) → AreSets g g
sets_of_ascending g ascending = record {
  nodes = refl;
  members = λ n m. refl;
  ascending = ascending;
}

-- the users of the users of a graph, the repeats of which were dropped
module _ (g us ss es : List (List ℕ)) (closed : is_closed g ≡ true) (u : AreUsers g us) (s : AreSets us ss) (e : AreUsers ss es) where
  many : length ss ≡ length g
  many = s.nodes ∙ u.nodes

  all : length es ≡ length g
  all = e.nodes ∙ many

  times_of : (n m : ℕ) → n < length g → times m (row es n) ≡ times n (row ss m)
  times_of n m below = e.counts m n (let l = many in omega arith)

  member : (n m : ℕ) → n < length g → m < length g → has (row es n) m ≡ has (row g n) m
  member n m below inside = has_by_times m (row es n) n (row ss m) (times_of n m below) ∙ s.members m n ∙ has_by_times n (row us m) m (row g n) (u.counts n m inside)

  no_member : (n m : ℕ) → n < length g → length g ≤ m → has (row es n) m ≡ has (row g n) m
  no_member n m below past =
      has_by_times m (row es n) n (row ss m) (times_of n m below)
      ∙ ap (λ l. has l n) (get_or_past ss m [] (let l = many in omega arith))
      ∙ sym (absent (has (row g n) m) refl)
    where
      absent : (b : Bool) → has (row g n) m ≡ b → has (row g n) m ≡ false
      absent false f = f
      absent true f = let b = below_from_closed g closed n m f in absurd (omega arith)

  members : (n m : ℕ) → has (row es n) m ≡ has (row g n) m
  members n m = ⊎_elim
      (λ below. ⊎_elim (member n m below) (no_member n m below) (cases_lt m (length g)))
      (λ past. ap (λ l. has l m) (get_or_past es n [] (let l = all in omega arith)) ∙ sym (ap (λ l. has l m) (get_or_past g n [] past)))
      (cases_lt n (length g))

  ascending : (n : ℕ) → IsStrictlyIncreasing (row es n)
  ascending n = ⊎_elim
      (λ below. strict_from_times (row es n) (e.ascending n) (λ m. let t = times_of n m below in let f = once_in_strict n (row ss m) (s.ascending m) in omega arith))
      (λ past. subst IsStrictlyIncreasing (sym (get_or_past es n [] (let l = all in omega arith))) (λ k h. absurd (omega arith)))
      (cases_lt n (length g))

  pub sets_of_users : AreSets g es
  sets_of_users = record { nodes = all; members = members; ascending = ascending }

  no_user : (n m : ℕ) → length g ≤ n → m < length g → times n (row ss m) ≡ 0
  no_user n m past inside =
      times_without_has n (row ss m)
      (s.members m n ∙ has_by_times n (row us m) m (row g n) (u.counts n m inside) ∙ ap (λ l. has l m) (get_or_past g n [] past))

  counts : (n m : ℕ) → m < length es → times n (row ss m) ≡ times m (row es n)
  counts n m inside = ⊎_elim
      (λ below. sym (times_of n m below))
      (λ past. no_user n m past (let l = all in omega arith) ∙ sym (ap (times m) (get_or_past es n [] (let l = all in omega arith))))
      (cases_lt n (length g))

  pub has_users_of : HasUsers es ss
  has_users_of = record { nodes = many ∙ sym all; counts = counts }
