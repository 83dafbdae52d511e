-- Names of nodes, against names that are recorded.
use Rattle.std.specs.Prelude.{ℕ, Bool, true, false, ◌&&◌, List, [], ◌∷◌, length, take, drop}
use Rattle.std.specs.Str.{bytes_eq}

-- these names are recorded, one by one
abbrev pub are_same : (names recorded : List (List ℕ)) → Bool
are_same [] [] = true
are_same [] (r ∷ recorded) = false
are_same (name ∷ names) [] = false
are_same (name ∷ names) (r ∷ recorded) = bytes_eq r name && are_same names recorded

-- these names are recorded first, one by one
abbrev pub come_first : (names recorded : List (List ℕ)) → Bool
come_first [] recorded = true
come_first (name ∷ names) [] = false
come_first (name ∷ names) (r ∷ recorded) = bytes_eq r name && come_first names recorded

-- these names are those that are recorded as explicit ones, and behind them the first that are recorded as hidden ones: by `-include`, what
-- a compiler has told of becomes explicit
abbrev pub are_known : (names explicit hidden : List (List ℕ)) → Bool
are_known names explicit hidden = are_same (take (length explicit) names) explicit && come_first (drop (length explicit) names) hidden
