-- Texts that are cut at a mark which no backslash quotes (GNU make manual, "What Makefiles Contain", "Rule Syntax" and "Syntax of Static Pattern
-- Rules"; GNU make 4.3).
use Rattle.std.specs.Prelude.{ℕ, ◌+◌, ◌/◌, ◌%◌, ◌==◌, ◌||◌, if◌then◌else◌, Bool, not, List, [], ◌∷◌, ◌++◌, replicate, Option, Some, None}
use Rattle.byte_strings.specs.Blanks.{is_blank}
use Rattle.mk_target_lines.specs.declared.mark.Mark.{Mark}
use Rattle.mk_target_lines.specs.declared.mark.Mark.TheVariants.{Byte, Blank, BlankOr}

abbrev pub is_mark : Mark → ℕ → Bool
is_mark (Byte mark) b = b == mark
is_mark Blank b = is_blank b
is_mark (BlankOr mark) b = is_blank b || b == mark

-- what stands before the first mark, and what stands from it on; nothing where there is none
abbrev pub Cut : Type 0
Cut = List ℕ × List ℕ

abbrev pub onto : List ℕ → Cut → Cut
onto bytes cut = (bytes ++ cut.0, cut.1)

abbrev pub backslashes : ℕ → List ℕ
backslashes n = replicate n 92

-- a text that stands behind so many backslashes. Before a mark two of them stand for one, and one that is left makes the mark a byte like others;
-- before another byte, and behind the mark, they stand for themselves
abbrev pub cut_behind : Mark → (held : ℕ) → List ℕ → Cut
cut_behind mark held [] = (backslashes held, [])
cut_behind mark held (b ∷ bs) =
    if b == 92 then cut_behind mark (held + 1) bs
    else (if not (is_mark mark b) then onto (backslashes held ++ b ∷ []) (cut_behind mark 0 bs)
    else (if held % 2 == 0 then (backslashes (held / 2), b ∷ bs)
    else onto (backslashes (held / 2) ++ b ∷ []) (cut_behind mark 0 bs)))

abbrev pub cut : Mark → List ℕ → Cut
cut mark text = cut_behind mark 0 text

-- what stands behind the mark
abbrev pub behind_mark : List ℕ → Option (List ℕ)
behind_mark [] = None
behind_mark (b ∷ bs) = Some bs

-- the text in which marks aren't quoted any more, up to the first one that wasn't
abbrev pub unquoted : Mark → List ℕ → List ℕ
unquoted mark text = (cut mark text).0 ++ (cut mark text).1

-- a text that stands behind so many backslashes, in which no colon is quoted any more: one behind an odd number of them keeps half of these
abbrev pub kept_before : (held b : ℕ) → ℕ
kept_before held b = if b == 58 then (if held % 2 == 0 then held else held / 2) else held

abbrev pub colons_behind : (held : ℕ) → List ℕ → List ℕ
colons_behind held [] = backslashes held
colons_behind held (b ∷ bs) =
    if b == 92 then colons_behind (held + 1) bs else backslashes (kept_before held b) ++ b ∷ colons_behind 0 bs

abbrev pub with_colons : List ℕ → List ℕ
with_colons text = colons_behind 0 text
