-- What is looked at where an expansion is made without macros' values.
use Rattle.std.specs.Prelude.{ℕ, Bool, false, ◌||◌, ◌==◌, List, [], ◌∷◌}
use Rattle.mk_macros.specs.Expansion.{gives, Adds}
use Rattle.mk_macros.specs.Ranks.{Defined, meaning_of}
use Rattle.mk_macros.specs.Reference.{Piece}
use Rattle.mk_macros.specs.declared.dynamic.Dynamic.{Dynamic}
use Rattle.mk_profile.specs.Profile.{is_wide}

-- the names of all dynamic macros begin so
abbrev pub is_sign : ℕ → Bool
is_sign b = b == 64 || (b == 60 || (b == 42 || (b == 63 || (b == 94 || (b == 43 || b == 124)))))

abbrev pub begins_with_sign : List ℕ → Bool
begins_with_sign [] = false
begins_with_sign (b ∷ bs) = is_sign b

-- the piece adds these bytes in this line
abbrev pub AddsThere : Defined → Dynamic → Piece → (added : List ℕ) → Type 0
AddsThere given line piece added = Adds (is_wide given.language) (meaning_of given.ranks line) [] piece (gives added)
