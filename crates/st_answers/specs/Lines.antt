-- Lines of answers.
use Rattle.std.specs.Prelude.{ℕ, List, [], ◌∷◌, ◌++◌}
use Rattle.std.specs.List.{flat_map}

abbrev pub newline : ℕ
newline = 10

abbrev pub tab : ℕ
tab = 9

-- a text and a newline
abbrev pub line : List ℕ → List ℕ
line text = text ++ newline ∷ []

-- a line for each text
abbrev pub lines : List (List ℕ) → List ℕ
lines texts = flat_map line texts

-- a line that says this word of a name
abbrev pub row : List ℕ → List ℕ → List ℕ
row word name = word ++ tab ∷ line name

-- a line for each name, which says this word of it
abbrev pub rows : List ℕ → List (List ℕ) → List ℕ
rows word names = flat_map (row word) names
