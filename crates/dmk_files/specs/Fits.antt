-- What is known of names, and what it may come from.
use Rattle.std.specs.Prelude.{◌≡◌, ℕ, List, Option, Some, None, IfSome, unwrap_or, refl}

-- what is known of each name is what this gives it
abbrev pub Fits : {V : Type 0} (known : List ℕ → Option V) (of : List ℕ → V) → Type 0
Fits known of = (n : List ℕ) → IfSome (known n) (λ v. of n ≡ v)

-- what is known fits, and else this one
pub some_fit_at : {V : Type 0} (found : Option V) (other : V) → IfSome found (λ v. unwrap_or found other ≡ v)
some_fit_at None other = tt
some_fit_at (Some v) other = refl

-- something fits: what is known, and else this one
pub some_fit : {V : Type 0} (known : List ℕ → Option V) (other : V) → Fits known (λ n. unwrap_or (known n) other)
some_fit known other n = some_fit_at (known n) other
