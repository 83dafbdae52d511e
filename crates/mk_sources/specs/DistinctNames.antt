-- Names that are looked for in two ways.
use Rattle.std.specs.Prelude.{◌≡◌, ◌⊎◌, ℕ, List, []}
use Rattle.mk_names.specs.Names.{has_name}

-- a name is in both lists or in none
abbrev pub HaveTheSame : (names others : List (List ℕ)) → Type 0
HaveTheSame names others = (name : List ℕ) → has_name names name ≡ has_name others name

-- the set has no name, or those of the list
abbrev pub IsSetOf : (set list : List (List ℕ)) → Type 0
IsSetOf set list = (set ≡ []) ⊎ HaveTheSame set list
