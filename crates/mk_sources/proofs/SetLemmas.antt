-- Which names are there once one more is mentioned.
use Rattle.std.proofs.Common.{◌≡◌, ℕ, Bool, true, false, ◌||◌, List, [], ◌∷◌, ◌++◌, refl, sym, ap, ◌∙◌}
use Rattle.std.specs.Bool.{if◌then◌else◌}
use Rattle.std.specs.Str.{bytes_eq}
use Rattle.std.proofs.lemmas.List.Folds.{list_any-append}
use Rattle.mk_names.specs.Names.{has_name, added}
use Rattle.mk_names.proofs.NameLemmas.{same_bytes}
use Rattle.mk_sources.specs.DistinctNames.{HaveTheSame}

or_false : (b : Bool) → (b || false) ≡ b
or_false true = refl
or_false false = refl

or_true : (b : Bool) → (b || true) ≡ true
or_true true = refl
or_true false = refl

or_assoc : (a b c : Bool) → ((a || b) || c) ≡ (a || (b || c))
or_assoc true b c = refl
or_assoc false b c = refl

pub has_pushed : (names : List (List ℕ)) (x n : List ℕ) → has_name (names ++ x ∷ []) n ≡ (has_name names n || bytes_eq n x)
has_pushed names x n = list_any-append (bytes_eq n) names (x ∷ []) ∙ ap (λ b. has_name names n || b) (or_false (bytes_eq n x))

known : (names : List (List ℕ)) (x n : List ℕ) → has_name names x ≡ true → (b : Bool) → bytes_eq n x ≡ b → has_name names n ≡ (has_name names n || b)
known names x n is true e = ap (has_name names) (same_bytes n x e) ∙ is ∙ sym (or_true (has_name names n))
known names x n is false e = sym (or_false (has_name names n))

pub has_added : (names : List (List ℕ)) (x n : List ℕ) → has_name (added names x) n ≡ (has_name names n || bytes_eq n x)
has_added names x n = by (has_name names x) refl
  where
    by : (b : Bool) → has_name names x ≡ b → has_name (if b then names else names ++ x ∷ []) n ≡ (has_name names n || bytes_eq n x)
    by true e = known names x n e (bytes_eq n x) refl
    by false e = has_pushed names x n

-- one of those that are left is mentioned
pub has_moved : (set left list : List (List ℕ)) (x : List ℕ) → ((n : List ℕ) → (has_name set n || has_name (x ∷ left) n) ≡ has_name list n)
    → (n : List ℕ) → (has_name (added set x) n || has_name left n) ≡ has_name list n
has_moved set left list x so n =
    ap (λ b. b || has_name left n) (has_added set x n) ∙ or_assoc (has_name set n) (bytes_eq n x) (has_name left n) ∙ so n

-- a new name in both
pub same_pushed : (set list : List (List ℕ)) (x : List ℕ) → HaveTheSame set list → HaveTheSame (added set x) (list ++ x ∷ [])
same_pushed set list x same n = has_added set x n ∙ ap (λ b. b || bytes_eq n x) (same n) ∙ sym (has_pushed list x n)
