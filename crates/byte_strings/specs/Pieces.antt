-- Strings that lie one behind the other in one text, each up to its end.
use Rattle.std.specs.Prelude.{◌≡◌, ℕ, ◌≤◌, List, [], ◌∷◌, slice_range}

-- the strings from this start on: each reaches from the end of the one before it to its own (own)
abbrev pub pieces : (text : List ℕ) (start : ℕ) (ends : List ℕ) → List (List ℕ)
pieces text start [] = []
pieces text start (end ∷ ends) = slice_range text start end ∷ pieces text end ends

-- the ends go up from the start, and the last one is the size of the text (own)
abbrev pub AreEnds : (size start : ℕ) (ends : List ℕ) → Type 0
AreEnds size start [] = start ≡ size
AreEnds size start (end ∷ ends) = (start ≤ end) × AreEnds size end ends
