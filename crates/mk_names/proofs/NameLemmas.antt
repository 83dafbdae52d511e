-- Names by first mention: what adding does to them, and that earlier numbers stay.
use Rattle.std.proofs.Common.{◌≡◌, ◌≢◌, ℕ, ◌<◌, ◌≤◌, Bool, true, false, cond, ◌||◌, nat_lt, List, [], ◌∷◌, ◌++◌, length, map, take, position, Some, suc, zero, refl, sym, ap, ◌∙◌, arith, lt-ltb, ltb-true, append_assoc, append-nil, length-append}
use Rattle.std.proofs.lemmas.Bool.{and_parts}
use Rattle.std.proofs.lemmas.List.{get_or_append_left}
use Rattle.std.proofs.lemmas.List.Folds.{list_any-append}
use Rattle.std.proofs.lemmas.List.Quantifiers.{position-Some}
use Rattle.std.specs.Bool.{if◌then◌else◌}
use Rattle.std.proofs.lemmas.Map.Keys.{IsDistinct-push, IsDistinct-tail, apart_from_distinct}
use Rattle.std.specs.Cmp.{IsEquivalence}
use Rattle.std.specs.List.{list_all, IsDistinct}
use Rattle.std.specs.Str.{bytes_eq}
use Rattle.std.specs.Cmp.Lexicographic.{bytes_decides}
use Rattle.mk_names.specs.Names.{name_at, has_name, added, all_added}

-- ---- beginnings

-- the second list is the first with more behind it
abbrev pub Begins : (front whole : List (List ℕ)) → Type 0
Begins front whole = (more : List (List ℕ)) × (front ++ more ≡ whole)

pub begins_itself : (names : List (List ℕ)) → Begins names names
begins_itself names = ([], append-nil names)

pub begins_through : (a b c : List (List ℕ)) → Begins a b → Begins b c → Begins a c
begins_through a b c x y = (x.0 ++ y.0, sym (append_assoc a x.0 y.0) ∙ ap (λ l. l ++ y.0) x.1 ∙ y.1)

pub length_from_begins : (a b : List (List ℕ)) → Begins a b → length a ≤ length b
length_from_begins a b x = let e = ap length x.1 in let l = length-append a x.0 in omega arith

pub name_at-begins : (a b : List (List ℕ)) (n : ℕ) → Begins a b → n < length a → name_at b n ≡ name_at a n
name_at-begins a b n x h = ap (λ l. name_at l n) (sym x.1) ∙ get_or_append_left a x.0 [] n h

pub below_from_begins : (a b : List (List ℕ)) (row : List ℕ) → Begins a b → list_all (λ n. nat_lt n (length a)) row ≡ true → list_all (λ n. nat_lt n (length b)) row ≡ true
below_from_begins a b [] x h = refl
below_from_begins a b (n ∷ row) x h =
    let p = and_parts (nat_lt n (length a)) (list_all (λ m. nat_lt m (length a)) row) h in
    let lt = ltb-true n (length a) p.0 in
    let l = length_from_begins a b x in
    rw (lt-ltb n (length b) (omega arith), below_from_begins a b row x p.1) refl

pub row_from_begins : (a b : List (List ℕ)) (row : List ℕ) → Begins a b → list_all (λ n. nat_lt n (length a)) row ≡ true → map (name_at b) row ≡ map (name_at a) row
row_from_begins a b [] x h = refl
row_from_begins a b (n ∷ row) x h =
    let p = and_parts (nat_lt n (length a)) (list_all (λ m. nat_lt m (length a)) row) h in
    let first = name_at-begins a b n x (ltb-true n (length a) p.0) in
    let rest = row_from_begins a b row x p.1 in
    (λ i. first i ∷ rest i)

-- ---- adding

pub begins_added : (names : List (List ℕ)) (name : List ℕ) → Begins names (added names name)
begins_added names name = by (has_name names name)
  where
    by : (b : Bool) → Begins names (if b then names else names ++ name ∷ [])
    by true = begins_itself names
    by false = (name ∷ [], refl)

pub begins_all_added : (names mentioned : List (List ℕ)) → Begins names (all_added names mentioned)
begins_all_added names [] = begins_itself names
begins_all_added names (name ∷ more) = begins_through names (added names name) (all_added (added names name) more) (begins_added names name) (begins_all_added (added names name) more)

pub all_added-append : (names xs ys : List (List ℕ)) → all_added names (xs ++ ys) ≡ all_added (all_added names xs) ys
all_added-append names [] ys = refl
all_added-append names (x ∷ xs) ys = all_added-append (added names x) xs ys

-- what is true of all names and of those that are added
pub list_all-all_added : (inside : List ℕ → Bool) (names mentioned : List (List ℕ)) → list_all inside names ≡ true → list_all inside mentioned ≡ true → list_all inside (all_added names mentioned) ≡ true
list_all-all_added inside names [] h k = h
list_all-all_added inside names (x ∷ more) h k =
    let p = and_parts (inside x) (list_all inside more) k in
    list_all-all_added inside (added names x) more (by (has_name names x) p.0) p.1
  where
    push : (xs : List (List ℕ)) → list_all inside xs ≡ true → inside x ≡ true → list_all inside (xs ++ x ∷ []) ≡ true
    push [] a b = rw b refl
    push (y ∷ ys) a b = let p = and_parts (inside y) (list_all inside ys) a in rw (p.0, push ys p.1 b) refl

    by : (b : Bool) → inside x ≡ true → list_all inside (if b then names else names ++ x ∷ []) ≡ true
    by true e = h
    by false e = push names h e

-- ---- equal bytes

pub same_bytes : (a b : List ℕ) → bytes_eq a b ≡ true → a ≡ b
same_bytes a b = (bytes_decides a b).0

pub bytes_same : (a b : List ℕ) → a ≡ b → bytes_eq a b ≡ true
bytes_same a b = (bytes_decides a b).1

-- names with other bytes
pub not_same : (a b : List ℕ) → a ≢ b → bytes_eq a b ≡ false
not_same a b other = by (bytes_eq a b) refl
  where
    by : (t : Bool) → bytes_eq a b ≡ t → t ≡ false
    by true e = absurd (other (same_bytes a b e))
    by false e = refl

pub has_name_at : (names : List (List ℕ)) (n : ℕ) → n < length names → has_name names (name_at names n) ≡ true
has_name_at [] n h = absurd (omega arith)
has_name_at (x ∷ names) zero h = ap (λ b. b || has_name names x) (bytes_same x x refl)
has_name_at (x ∷ names) (suc n) h = ap (λ b. bytes_eq (name_at names n) x || b) (has_name_at names n (omega arith)) ∙ or_true (bytes_eq (name_at names n) x)
  where
    or_true : (b : Bool) → (b || true) ≡ true
    or_true true = refl
    or_true false = refl

-- the place of a name is its number
pub found_at : (names : List (List ℕ)) (name : List ℕ) (n : ℕ) → position (bytes_eq name) names ≡ Some n → (n < length names) × (name_at names n ≡ name)
found_at names name n e =
    let p = position-Some (bytes_eq name) names n [] e in
    (p.0, sym (same_bytes name (name_at names n) p.1))

-- a new name has the next number
pub added_new : (names : List (List ℕ)) (name : List ℕ) → has_name names name ≡ false → added names name ≡ names ++ name ∷ []
added_new names name h = ap (λ b. if b then names else names ++ name ∷ []) h

-- ---- what is among names that are taken in

pub or_none : (a : Bool) → (a || false) ≡ a
or_none true = refl
or_none false = refl

pub or_both : (a b c : Bool) → ((a || b) || c) ≡ (a || (b || c))
or_both true b c = refl
or_both false b c = refl

has_added : (names : List (List ℕ)) (name target : List ℕ) → has_name (added names name) target ≡ (has_name names target || bytes_eq target name)
has_added names name target = by (has_name names name) refl (bytes_eq target name) refl
  where
    by : (b : Bool) → has_name names name ≡ b → (c : Bool) → bytes_eq target name ≡ c →
        has_name (cond b (names) (names ++ name ∷ [])) target ≡ (has_name names target || c)
    by true e true f = let there : has_name names target ≡ true = ap (has_name names) (same_bytes target name f) ∙ e in there ∙ sym (ap (λ b. b || true) there)
    by true e false f = sym (or_none (has_name names target))
    by false e c f = list_any-append (bytes_eq target) names (name ∷ []) ∙ ap (λ b. has_name names target || b) (or_none (bytes_eq target name) ∙ f)

pub has_all_added : (names mentioned : List (List ℕ)) (target : List ℕ) → has_name (all_added names mentioned) target ≡ (has_name names target || has_name mentioned target)
has_all_added names [] target = sym (or_none (has_name names target))
has_all_added names (name ∷ more) target =
    has_all_added (added names name) more target ∙ ap (λ b. b || has_name more target) (has_added names name target)
    ∙ or_both (has_name names target) (bytes_eq target name) (has_name more target)

-- ---- names are distinct

both_ways : (a b : Bool) → (a ≡ true → b ≡ true) → (b ≡ true → a ≡ true) → a ≡ b
both_ways true true f g = refl
both_ways true false f g = sym (f refl)
both_ways false true f g = g refl
both_ways false false f g = refl

bytes_equiv : IsEquivalence bytes_eq
bytes_equiv = record {
  refl = λ a. bytes_same a a (λ _. a);
  symm = λ a b. both_ways (bytes_eq a b) (bytes_eq b a) (λ e. bytes_same b a (sym (same_bytes a b e))) (λ e. bytes_same a b (sym (same_bytes b a e)));
  congr = λ a b other e. ap (λ l. bytes_eq l other) (same_bytes a b e);
}

pub distinct_none : IsDistinct bytes_eq []
unfolding IsDistinct
distinct_none = tt

distinct_added : (names : List (List ℕ)) (name : List ℕ) → IsDistinct bytes_eq names → IsDistinct bytes_eq (added names name)
distinct_added names name d = by (has_name names name) refl
  where
    by : (b : Bool) → has_name names name ≡ b → IsDistinct bytes_eq (if b then names else names ++ name ∷ [])
    by true e = d
    by false e = IsDistinct-push bytes_equiv names name d e

pub distinct_all_added : (names mentioned : List (List ℕ)) → IsDistinct bytes_eq names → IsDistinct bytes_eq (all_added names mentioned)
distinct_all_added names [] d = d
distinct_all_added names (name ∷ more) d = distinct_all_added (added names name) more (distinct_added names name d)

-- of distinct names none is among those before it
pub new_at : (names : List (List ℕ)) (k : ℕ) → IsDistinct bytes_eq names → k < length names → has_name (take k names) (name_at names k) ≡ false
new_at [] k d h = absurd (omega arith)
new_at (x ∷ names) zero d h = refl
new_at (x ∷ names) (suc k) d h =
    rw (bytes_equiv.symm (name_at names k) x ∙ apart_from_distinct bytes_eq (x ∷ names) 0 (suc k) [] d (omega arith) h)
    (new_at names k (IsDistinct-tail bytes_eq x names d) (omega arith))
