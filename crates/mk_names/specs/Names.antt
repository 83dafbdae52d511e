-- Names by number, in the order of their first mention. Own.
use Rattle.std.specs.Prelude.{ℕ, Bool, List, [], ◌∷◌, ◌++◌, slice_index_or, if◌then◌else◌}
use Rattle.std.specs.List.{list_any}
use Rattle.std.specs.Str.{bytes_eq}

-- the name with a number; nothing past the end
abbrev pub name_at : (names : List (List ℕ)) (number : ℕ) → List ℕ
name_at names number = slice_index_or names number []

-- whether the name has a number
abbrev pub has_name : (names : List (List ℕ)) (name : List ℕ) → Bool
has_name names name = list_any (bytes_eq name) names

-- the names once this one is mentioned: a new one comes last
abbrev pub added : (names : List (List ℕ)) (name : List ℕ) → List (List ℕ)
added names name = if has_name names name then names else names ++ name ∷ []

-- the names once these are mentioned in turn
abbrev pub all_added : (names mentioned : List (List ℕ)) → List (List ℕ)
all_added names [] = names
all_added names (name ∷ more) = all_added (added names name) more
