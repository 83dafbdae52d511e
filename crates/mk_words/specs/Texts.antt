-- Texts in texts (GNU make manual, "Functions for String Substitution and Analysis").
use Rattle.std.specs.Prelude.{ℕ, zero, suc, ◌-◌, ◌||◌, if◌then◌else◌, Bool, false, List, [], ◌∷◌, ◌++◌, take, length, bytes_eq}

-- each place where a text stands, from the left, with another in its place; so many bytes of it are yet to be passed over
abbrev pub replaced : (from to : List ℕ) (left : ℕ) → List ℕ → List ℕ
replaced from to left [] = []
replaced from to (suc left) (b ∷ bs) = replaced from to left bs
replaced from to zero (b ∷ bs) =
    if bytes_eq (take (length from) (b ∷ bs)) from then to ++ replaced from to (length from - 1) bs else b ∷ replaced from to 0 bs

-- no text stands at the end alone
abbrev pub substituted : (from to text : List ℕ) → List ℕ
substituted [] to text = text ++ to
substituted (b ∷ bs) to text = replaced (b ∷ bs) to 0 text

-- a text stands somewhere in another, which isn't empty
abbrev pub stands_in : (find : List ℕ) → List ℕ → Bool
stands_in find [] = false
stands_in find (b ∷ bs) = bytes_eq find (take (length find) (b ∷ bs)) || stands_in find bs

-- the text where it is found, or nothing
abbrev pub found_in : (find text : List ℕ) → List ℕ
found_in find text = if stands_in find text then find else []
