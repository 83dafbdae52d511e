-- Texts that are cut: behind their first word, and at a byte.
use Rattle.std.specs.Prelude.{ℕ, ◌+◌, ◌-◌, Bool, not, ◌&&◌, ◌||◌, ◌==◌, nat_le, List, [], ◌∷◌, length, take, drop, Option, Some, None, if◌then◌else◌}
use Rattle.byte_strings.specs.Blanks.{first_word, trimmed_start}

-- the first word of a text
unfoldable pub front_word : List ℕ → List ℕ
front_word text = first_word (trimmed_start text)

-- what stands behind it, without the blanks in front
unfoldable pub behind_word : List ℕ → List ℕ
behind_word text = trimmed_start (drop (length (front_word text)) (trimmed_start text))

-- one more where a byte is the wanted one
abbrev pub counted : (wanted b so_far : ℕ) → ℕ
counted wanted b so_far = if b == wanted then so_far + 1 else so_far

-- behind these bytes no more parentheses have opened than closed, where they count; braces never do (GNU make 4.3)
abbrev pub is_level : (nested : Bool) (opened closed : ℕ) → List ℕ → Bool
is_level nested opened closed [] = not nested || nat_le opened closed
is_level nested opened closed (b ∷ bs) = is_level nested (counted 40 b opened) (counted 41 b closed) bs

-- what stands behind the first of these bytes in front of which the text is level
abbrev pub behind_mark : (nested : Bool) (mark opened closed : ℕ) → List ℕ → Option (List ℕ)
behind_mark nested mark opened closed [] = None
behind_mark nested mark opened closed (b ∷ bs) =
    if b == mark && (not nested || nat_le opened closed) then Some bs
    else behind_mark nested mark (counted 40 b opened) (counted 41 b closed) bs

abbrev pub cut_before : (text : List ℕ) → Option (List ℕ) → Option (List ℕ × List ℕ)
cut_before text None = None
cut_before text (Some behind) = Some (take (length text - (length behind + 1)) text, behind)

-- what stands before that byte, and what stands behind it
unfoldable pub cut : (nested : Bool) (mark : ℕ) → List ℕ → Option (List ℕ × List ℕ)
cut nested mark text = cut_before text (behind_mark nested mark 0 0 text)
