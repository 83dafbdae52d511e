-- The hidden prerequisites of a target. Own.
use Rattle.std.specs.Prelude.{◌≡◌, ℕ, List, [], ◌∷◌, ◌++◌}
use Rattle.mk_names.specs.Names.{all_added}

-- these are new behind the names: all that are mentioned are there with them, each once, in the order in which they are mentioned first
abbrev pub AreNew : (names mentioned new : List (List ℕ)) → Type 0
AreNew names mentioned new = all_added names mentioned ≡ names ++ new

-- what is no hidden prerequisite of the target: itself, and what the makefile names for it
abbrev pub no_hidden : (target : List ℕ) (known : List (List ℕ)) → List (List ℕ)
no_hidden target known = all_added [] (target ∷ known)

-- the hidden prerequisites of a target, of which these are known, by what is mentioned of it
abbrev pub AreHidden : (target : List ℕ) (known mentioned hidden : List (List ℕ)) → Type 0
AreHidden target known mentioned hidden = AreNew (no_hidden target known) mentioned hidden

-- ---- one list after the other

-- these names with what was found, once more are mentioned
pub record AreMore (names found mentioned names' found' : List (List ℕ)) : Type 0 where
  pub all : names' ≡ all_added names mentioned
  pub new : (front : List (List ℕ)) → names ≡ front ++ found → names' ≡ front ++ found'
