-- Maps that are asked by the bytes of their keys.
use Rattle.std.proofs.Common.{◌≡◌, ◌≢◌, true≢false, ℕ, Bool, true, false, cond, List, [], ◌∷◌, Some, refl, sym, ap, ◌∙◌}
use Rattle.std.specs.Map.{lookup, set_value}
use Rattle.std.specs.Str.{bytes_eq}
use Rattle.std.proofs.lemmas.Slice.Eq.{bytes_eq-Decides}
use Rattle.indexmap.specs.IndexMap.{insert_entry}
use Rattle.mk_macros.proofs.DefinitionLemmas.{is_named, lookup-set_value}

-- equal names answer alike
pub bytes_eq-same : (a b : List ℕ) → bytes_eq a b ≡ true → a ≡ b
bytes_eq-same a b e = (bytes_eq-Decides a b).0 e

module _ {K V : Type 0} (bytes_of : K → List ℕ) (n : List ℕ) (k : K) (v : V) where
  abbrev Inserts : List (K × V) → Type 0
  Inserts es =
      lookup (is_named bytes_of n) (insert_entry (λ x y. is_named bytes_of (bytes_of x) y) es k v)
      ≡ cond (bytes_eq n (bytes_of k)) (Some v) (lookup (is_named bytes_of n) es)

  there_at : (e : K × V) (es : List (K × V)) → bytes_of k ≡ bytes_of e.0 → (t : Bool) → bytes_eq n (bytes_of k) ≡ t → is_named bytes_of n e.0 ≡ t →
      lookup (is_named bytes_of n) ((e.0, v) ∷ es) ≡ cond (bytes_eq n (bytes_of k)) (Some v) (lookup (is_named bytes_of n) (e ∷ es))
  there_at e es same true a b = simp (a, b) refl
  there_at e es same false a b = simp (a, b) refl

  apart_at : (e : K × V) (es : List (K × V)) → is_named bytes_of (bytes_of k) e.0 ≡ false → Inserts es → (t u : Bool) → bytes_eq n (bytes_of k) ≡ t → is_named bytes_of n e.0 ≡ u →
      lookup (is_named bytes_of n) (e ∷ insert_entry (λ x y. is_named bytes_of (bytes_of x) y) es k v)
      ≡ cond (bytes_eq n (bytes_of k)) (Some v) (lookup (is_named bytes_of n) (e ∷ es))
  apart_at e es apart ih true true a b =
      let both : is_named bytes_of (bytes_of k) e.0 ≡ true = ap (λ m. is_named bytes_of m e.0) (sym (bytes_eq-same n (bytes_of k) a)) ∙ b in cc
  apart_at e es apart ih true false a b = simp (a, b) (ih ∙ simp a refl)
  apart_at e es apart ih false true a b = simp (a, b) refl
  apart_at e es apart ih false false a b = simp (a, b) (ih ∙ simp a refl)

  entry_at : (e : K × V) (es : List (K × V)) (t : Bool) → is_named bytes_of (bytes_of k) e.0 ≡ t → Inserts es → Inserts (e ∷ es)
  entry_at e es true here ih =
      let same : bytes_of k ≡ bytes_of e.0 = bytes_eq-same (bytes_of k) (bytes_of e.0) here in
      simp here (there_at e es same (bytes_eq n (bytes_of k)) refl (ap (λ m. bytes_eq n m) (sym same)))
  entry_at e es false here ih = simp here (apart_at e es here ih (bytes_eq n (bytes_of k)) (is_named bytes_of n e.0) refl refl)

  -- what a map has of any name once one more name has a value
  pub lookup-inserted : (es : List (K × V)) → Inserts es
  lookup-inserted [] = refl
  lookup-inserted (e ∷ es) = entry_at e es (is_named bytes_of (bytes_of k) e.0) refl (lookup-inserted es)

module _ {K V : Type 0} (bytes_of : K → List ℕ) (name : List ℕ) (w : V) where
  set_at : (e : K × V) (es : List (K × V)) (v : V) → lookup (is_named bytes_of name) (e ∷ es) ≡ Some v → (t : Bool) → is_named bytes_of name e.0 ≡ t →
      (lookup (is_named bytes_of name) es ≡ Some v → lookup (is_named bytes_of name) (set_value (is_named bytes_of name) es w) ≡ Some w) →
      lookup (is_named bytes_of name) (set_value (is_named bytes_of name) (e ∷ es) w) ≡ Some w
  set_at e es v found true here ih = simp (here, here) refl
  set_at e es v found false here ih = simp (here, here) (ih (simp here at found))

  -- a name that was there has the value that is written
  itself : (es : List (K × V)) (v : V) → lookup (is_named bytes_of name) es ≡ Some v →
      lookup (is_named bytes_of name) (set_value (is_named bytes_of name) es w) ≡ Some w
  itself [] v found = cc
  itself (e ∷ es) v found = set_at e es v found (is_named bytes_of name e.0) refl (λ inner. itself es v inner)

  apart : (n : List ℕ) → bytes_eq n name ≡ false → n ≢ name
  apart n e same = true≢false (sym ((bytes_eq-Decides n name).1 same) ∙ e)

  written_at : (n : List ℕ) (es : List (K × V)) (v : V) → lookup (is_named bytes_of name) es ≡ Some v → (t : Bool) → bytes_eq n name ≡ t →
      lookup (is_named bytes_of n) (set_value (is_named bytes_of name) es w) ≡ cond (bytes_eq n name) (Some w) (lookup (is_named bytes_of n) es)
  written_at n es v found true e =
      let same : n ≡ name = bytes_eq-same n name e in
      ap (λ m. lookup (is_named bytes_of m) (set_value (is_named bytes_of name) es w)) same ∙ itself es v found ∙ simp e refl
  written_at n es v found false e = lookup-set_value bytes_of n name (apart n e) es w ∙ simp e refl

  -- what a map has of any name once the value of one is written
  pub lookup-written : (n : List ℕ) (es : List (K × V)) (v : V) → lookup (is_named bytes_of name) es ≡ Some v →
      lookup (is_named bytes_of n) (set_value (is_named bytes_of name) es w) ≡ cond (bytes_eq n name) (Some w) (lookup (is_named bytes_of n) es)
  lookup-written n es v found = written_at n es v found (bytes_eq n name) refl
