-- Rows parted in two. Own.
use Rattle.std.specs.Prelude.{ℕ, List, [], ◌∷◌, take, drop}

-- of each row what a count leaves of it; there is a count for each row
abbrev pub by_counts : (part : ℕ → List ℕ → List ℕ) (counts : List ℕ) (g : List (List ℕ)) → List (List ℕ)
by_counts part counts [] = []
by_counts part [] (ns ∷ g) = []
by_counts part (count ∷ counts) (ns ∷ g) = part count ns ∷ by_counts part counts g

-- of each row its first numbers, as many as its count says, or all where it has no more
abbrev pub fronts : (counts : List ℕ) (g : List (List ℕ)) → List (List ℕ)
fronts counts g = by_counts take counts g

-- of each row the numbers behind these
abbrev pub backs : (counts : List ℕ) (g : List (List ℕ)) → List (List ℕ)
backs counts g = by_counts drop counts g
