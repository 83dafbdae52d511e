-- The names that goals lead to have one numbering.
use Rattle.std.proofs.Common.{◌≡◌, ℕ, ◌+◌, ◌<◌, ◌≤◌, Bool, true, false, ◌||◌, List, [], ◌∷◌, ◌++◌, length, take, drop, suc, zero, refl, sym, ap, ◌∙◌, subst, ⊎_elim, arith, append_assoc, true≢false}
use Rattle.std.specs.Prelude.{if◌then◌else◌}
use Rattle.std.specs.List.{list_all, flat_map, IsDistinct}
use Rattle.std.specs.Str.{bytes_eq}
use Rattle.std.proofs.lemmas.Bool.{and_parts, and_from, cases_lt}
use Rattle.std.proofs.lemmas.Grind.{flat_map-append}
use Rattle.std.proofs.lemmas.List.{take_all, take-append-le, take-append-drop}
use Rattle.std.proofs.lemmas.List.Folds.{list_all-append, list_any-append}
use Rattle.mk_names.specs.Names.{has_name, name_at, added, all_added}
use Rattle.mk_graph.specs.Numbering.{IsNumbering}
use Rattle.mk_names.proofs.NameLemmas.{distinct_all_added, distinct_none, Begins, begins_all_added, all_added-append, same_bytes, bytes_same, new_at}
use Rattle.mk_graph.proofs.RowLemmas.{list_all_place}

pub distinct_names : (of : List ℕ → List (List ℕ)) (goals names : List (List ℕ)) → IsNumbering of goals names → IsDistinct bytes_eq names
distinct_names of goals names is = subst (IsDistinct bytes_eq) (sym is.order) (distinct_all_added [] (goals ++ flat_map of names) distinct_none)

-- ---- names that are mentioned

or_true : (b : Bool) → (b || true) ≡ true
or_true true = refl
or_true false = refl

-- a name of a beginning is one of the whole
has_in : (front whole : List (List ℕ)) (x : List ℕ) → Begins front whole → has_name front x ≡ true → has_name whole x ≡ true
has_in front whole x (more, is) there =
    subst (λ l. has_name l x ≡ true) is (list_any-append (bytes_eq x) front more ∙ ap (λ b. b || has_name more x) there)

has_here : (x : List ℕ) (names : List (List ℕ)) → has_name (added names x) x ≡ true
has_here x names = by (has_name names x) refl
  where
    by : (b : Bool) → has_name names x ≡ b → has_name (if b then names else names ++ x ∷ []) x ≡ true
    by true e = e
    by false e = list_any-append (bytes_eq x) names (x ∷ []) ∙ ap (λ b. has_name names x || (b || false)) (bytes_same x x refl) ∙ or_true (has_name names x)

has_mentioned : (names mentioned : List (List ℕ)) → list_all (has_name (all_added names mentioned)) mentioned ≡ true
has_mentioned names [] = refl
has_mentioned names (x ∷ more) =
    and_from (has_name (all_added (added names x) more) x) (list_all (has_name (all_added (added names x) more)) more)
    (has_in (added names x) (all_added (added names x) more) x (begins_all_added (added names x) more) (has_here x names))
    (has_mentioned (added names x) more)

-- a beginning that isn't longer begins the first names too
front_of : (front more : List (List ℕ)) (k : ℕ) → length front ≤ k → Begins front (take k (front ++ more))
front_of [] more k short = (take k more, refl)
front_of (x ∷ front) more zero short = absurd (omega arith)
front_of (x ∷ front) more (suc k) short = let b = front_of front more k (omega arith) in (b.0, ap (λ l. x ∷ l) b.1)

module _ (of : List ℕ → List (List ℕ)) where
  all_of_first : (inside : List ℕ → Bool) (x n : List ℕ) (names : List (List ℕ)) (b : Bool) → bytes_eq n x ≡ b → list_all inside (of x) ≡ true →
      (has_name names n ≡ true → list_all inside (of n) ≡ true) → (b || has_name names n) ≡ true → list_all inside (of n) ≡ true
  all_of_first inside x n names true e first later there = subst (λ m. list_all inside (of m) ≡ true) (sym (same_bytes n x e)) first
  all_of_first inside x n names false e first later there = later there

  -- what holds of all prerequisites of some names holds of those of each
  all_of_one : (inside : List ℕ → Bool) (names : List (List ℕ)) (n : List ℕ) → list_all inside (flat_map of names) ≡ true → has_name names n ≡ true →
      list_all inside (of n) ≡ true
  all_of_one inside [] n all there = absurd (true≢false (sym there))
  all_of_one inside (x ∷ names) n all there =
      let parts = and_parts (list_all inside (of x)) (list_all inside (flat_map of names)) (sym (list_all-append inside (of x) (flat_map of names)) ∙ all) in
      all_of_first inside x n names (bytes_eq n x) refl parts.0 (all_of_one inside names n parts.1) there

  module _ (goals : List (List ℕ)) where
    -- what goals and the first names mention
    abbrev mentions : (names : List (List ℕ)) (k : ℕ) → List (List ℕ)
    mentions names k = all_added [] (goals ++ flat_map of (take k names))

    begins_names : (names : List (List ℕ)) (k : ℕ) → names ≡ all_added [] (goals ++ flat_map of names) → Begins (mentions names k) names
    begins_names names k order =
        let front : List (List ℕ) = flat_map of (take k names) in
        let rest : List (List ℕ) = flat_map of (drop k names) in
        let parts : goals ++ flat_map of names ≡ (goals ++ front) ++ rest
        = ap (λ l. goals ++ l) (ap (flat_map of) (sym (take-append-drop k names)) ∙ flat_map-append of (take k names) (drop k names))
        ∙ sym (append_assoc goals front rest) in
        let all : names ≡ all_added (mentions names k) rest = order ∙ ap (all_added []) parts ∙ all_added-append [] (goals ++ front) rest in
        subst (Begins (mentions names k)) (sym all) (begins_all_added (mentions names k) rest)

    -- where the first names mention none behind them, they are all
    all_mentioned : (names : List (List ℕ)) (k : ℕ) → IsNumbering of goals names → length (mentions names k) ≤ k → mentions names k ≡ names
    all_mentioned names k is short =
        let said : List (List ℕ) = mentions names k in
        let begins = begins_names names k is.order in
        let parts = and_parts (list_all (has_name said) goals) (list_all (has_name said) (flat_map of (take k names)))
        (sym (list_all-append (has_name said) goals (flat_map of (take k names))) ∙ has_mentioned [] (goals ++ flat_map of (take k names))) in
        let first : Begins said (take k names) = subst (λ l. Begins said (take k l)) begins.1 (front_of said begins.0 k short) in
        let all : list_all (has_name said) names ≡ true
        = is.least (has_name said) parts.0 (λ n there. all_of_one (has_name said) (take k names) n parts.1 (has_in said (take k names) n first there)) in
        let front : take (length said) names ≡ said
        = ap (take (length said)) (sym begins.1) ∙ take-append-le (length said) said begins.0 (omega arith) ∙ take_all (length said) said (omega arith) in
        ⊎_elim
        (λ (behind : length said < length names).
        absurd (true≢false (sym (list_all_place (has_name said) names (length said) [] behind all)
        ∙ ap (λ l. has_name l (name_at names (length said))) (sym front)
        ∙ new_at names (length said) (distinct_names of goals names is) behind)))
        (λ (none : length names ≤ length said). sym front ∙ take_all (length said) names none)
        (cases_lt (length said) (length names))

    module _ (a b : List (List ℕ)) (is_a : IsNumbering of goals a) (is_b : IsNumbering of goals b) where
      same_mentions : (k : ℕ) → take k a ≡ take k b → mentions a k ≡ mentions b k
      same_mentions k same = ap (λ l. all_added [] (goals ++ flat_map of l)) same

      first_of : (names : List (List ℕ)) (k : ℕ) → IsNumbering of goals names → k < length (mentions names k) → take (suc k) names ≡ take (suc k) (mentions names k)
      first_of names k is more =
          let begins = begins_names names k is.order in
          ap (take (suc k)) (sym begins.1) ∙ take-append-le (suc k) (mentions names k) begins.0 (omega arith)

      same_next : (k : ℕ) → take k a ≡ take k b → take (suc k) a ≡ take (suc k) b
      same_next k same =
          let said = same_mentions k same in
          ⊎_elim
          (λ (more : k < length (mentions a k)).
          first_of a k is_a more ∙ ap (take (suc k)) said ∙ sym (first_of b k is_b (subst (λ l. k < length l) said more)))
          (λ (none : length (mentions a k) ≤ k).
          ap (take (suc k)) (sym (all_mentioned a k is_a none) ∙ said ∙ all_mentioned b k is_b (subst (λ l. length l ≤ k) said none)))
          (cases_lt k (length (mentions a k)))

      same_first : (k : ℕ) → take k a ≡ take k b
      same_first zero = refl
      same_first (suc k) = same_next k (same_first k)

      pub names_once : a ≡ b
      names_once =
          sym (take_all (length a + length b) a (omega arith)) ∙ same_first (length a + length b) ∙ take_all (length a + length b) b (omega arith)
