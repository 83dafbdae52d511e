-- Parts of names of files (GNU make manual, "Functions for File Names").
use Rattle.std.specs.Prelude.{ℕ, ◌-◌, ◌==◌, if◌then◌else◌, List, [], ◌∷◌, ◌++◌, take, drop, length, codes}
use Rattle.mk_words.specs.Counted.{first_word}

-- what stands behind the last slash, or this where there is none
abbrev pub behind_slash : (found : List ℕ) → List ℕ → List ℕ
behind_slash found [] = found
behind_slash found (b ∷ bs) = behind_slash (if b == 47 then bs else found) bs

abbrev pub notdir_of : List ℕ → List ℕ
notdir_of name = behind_slash name name

-- `./` for a folder that isn't named
abbrev pub or_here : List ℕ → List ℕ
or_here [] = codes "./"
or_here (b ∷ bs) = b ∷ bs

-- up to the last slash, with it
abbrev pub dir_of : List ℕ → List ℕ
dir_of name = or_here (take (length name - length (notdir_of name)) name)

-- from the last dot on that no slash stands behind, or this where there is neither
abbrev pub from_dot : (found : List ℕ) → List ℕ → List ℕ
from_dot found [] = found
from_dot found (b ∷ bs) = from_dot (if b == 46 then b ∷ bs else (if b == 47 then [] else found)) bs

abbrev pub suffix_of : List ℕ → List ℕ
suffix_of name = from_dot [] name

abbrev pub basename_of : List ℕ → List ℕ
basename_of name = take (length name - length (suffix_of name)) name

-- each word with that of the same number behind it, and where there are more of them, those by themselves
abbrev pub paired : List (List ℕ) → List (List ℕ) → List (List ℕ)
paired [] others = others
paired (w ∷ ws) others = (w ++ first_word others) ∷ paired ws (drop 1 others)
