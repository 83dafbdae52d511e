-- Which names are near to another one. Own.
use Rattle.std.specs.Prelude.{◌≡◌, ◌≤◌, ◌*◌, ℕ, Bool, true, false, ◌&&◌, nat_eq, nat_le, List, Option, None, Some, length}
use Rattle.std.specs.List.{All, Contains}
use Rattle.strsim.specs.Edits.{levenshtein_row}

-- how many bytes are to be put in, taken out or changed in the one for the other (Levenshtein's distance)
abbrev pub edits : (name other : List ℕ) → ℕ
edits name other = levenshtein_row nat_eq name other (length other)

-- two at most, and at most a third of the name
abbrev pub is_near : (name other : List ℕ) → Bool
is_near name other = nat_le (edits name other) 2 && nat_le (edits name other * 3) (length name)

-- one of the names, near, and none of them is nearer; or none is near
abbrev pub IsNearest : (name : List ℕ) → (among : List (List ℕ)) → Option (List ℕ) → Type 0
IsNearest name among (Some found) =
    Contains among found × (is_near name found ≡ true) × All (λ other. edits name found ≤ edits name other) among
IsNearest name among None = All (λ other. is_near name other ≡ false) among
