-- What is known of names once one more is known: the times of their files, or anything else.
use Rattle.std.proofs.Common.{◌≡◌, true≢false, ℕ, Bool, true, false, cond, List, Option, Some, None, refl, sym, ap, subst, ◌∙◌}
use Rattle.std.specs.Prelude.{IfSome, IsSome}
use Rattle.std.specs.Str.{bytes_eq}
use Rattle.std.proofs.lemmas.Slice.Eq.{bytes_eq-Decides}
use Rattle.mk_rule_lines.proofs.NameLemmas.{bytes_eq-same}
use Rattle.dmk_files.specs.Fits.{Fits}

-- a known time is the one that fits
pub found_is : {V : Type 0} (known : List ℕ → Option V) (name : List ℕ) (stamp : V) → known name ≡ Some stamp →
    (looks : List ℕ → V) → Fits known looks → stamp ≡ looks name
found_is {V} known name stamp is looks fits = sym (subst (λ (found : Option V). IfSome found (λ s. looks name ≡ s)) is (fits name))

-- what fits later fits before, where no more is known
pub fits_alike : {V : Type 0} (known after : List ℕ → Option V) (looks : List ℕ → V) → ((n : List ℕ) → after n ≡ known n) → Fits after looks → Fits known looks
fits_alike {V} known after looks same fits n = subst (λ (found : Option V). IfSome found (λ s. looks n ≡ s)) (same n) (fits n)

-- of what isn't known later nothing was known before
pub unknown_before : {V : Type 0} (known after : List ℕ → Option V) (name : List ℕ) → ((n : List ℕ) → after n ≡ known n) → after name ≡ None → IsSome (known name) → ⊥
unknown_before {V} known after name same none some = true≢false (sym (subst (λ (found : Option V). IsSome found) (sym (same name) ∙ none) some))

module _ {V : Type 0} (known after : List ℕ → Option V) (name : List ℕ) (stamp : V)
    (adds : (n : List ℕ) → after n ≡ cond (bytes_eq n name) (Some stamp) (known n)) (looks : List ℕ → V) where
  itself : after name ≡ Some stamp
  itself = let same : bytes_eq name name ≡ true = (bytes_eq-Decides name name).1 refl in adds name ∙ simp same refl

  pub stamp_is : Fits after looks → stamp ≡ looks name
  stamp_is fits = sym (subst (λ (found : Option V). IfSome found (λ s. looks name ≡ s)) itself (fits name))

  before_at : (n : List ℕ) → known name ≡ None → IfSome (after n) (λ s. looks n ≡ s) → (t : Bool) → bytes_eq n name ≡ t → IfSome (known n) (λ s. looks n ≡ s)
  before_at n absent fits true e =
      let none : known n ≡ None = ap known (bytes_eq-same n name e) ∙ absent in
      subst (λ (found : Option V). IfSome found (λ s. looks n ≡ s)) (sym none) tt
  before_at n absent fits false e =
      let same : after n ≡ known n = adds n ∙ simp e refl in
      subst (λ (found : Option V). IfSome found (λ s. looks n ≡ s)) same fits

  -- what fits later fits before
  pub before : known name ≡ None → Fits after looks → Fits known looks
  before absent fits n = before_at n absent (fits n) (bytes_eq n name) refl

  later_at : (n : List ℕ) → looks name ≡ stamp → IfSome (known n) (λ s. looks n ≡ s) → (t : Bool) → bytes_eq n name ≡ t → IfSome (after n) (λ s. looks n ≡ s)
  later_at n is fits true e =
      let same : after n ≡ Some stamp = adds n ∙ simp e refl in
      subst (λ (found : Option V). IfSome found (λ s. looks n ≡ s)) (sym same) (ap looks (bytes_eq-same n name e) ∙ is)
  later_at n is fits false e =
      let same : after n ≡ known n = adds n ∙ simp e refl in
      subst (λ (found : Option V). IfSome found (λ s. looks n ≡ s)) (sym same) fits

  -- what fits before, and the new time, fit later
  pub later : looks name ≡ stamp → Fits known looks → Fits after looks
  later is fits n = later_at n is (fits n) (bytes_eq n name) refl
