-- What a name hands to a hasher. Own: a name is a whole key, so that its length needn't be handed over too.
use Rattle.std.specs.Prelude.{ℕ, List, [], ◌∷◌}

-- all bytes in one piece
abbrev pub at_once : (name : List ℕ) → List (List ℕ)
at_once name = name ∷ []
