-- Colons of names: in the wide profile one behind an odd number of backslashes parts no line (GNU make 4.3).
use Rattle.std.specs.Prelude.{ℕ, Bool, false, not, ◌&&◌, ◌==◌, List, [], ◌∷◌, if◌then◌else◌, ◌≡◌, ◌++◌, length}
use Rattle.mk_profile.specs.Profile.{is_wide}
use Rattle.mk_profile.specs.declared.profile.Profile.{Profile}
use Rattle.mk_lines.specs.Text.{is_backslash}
use Rattle.mk_lines.specs.References.{Whole}

-- the byte as it is seen by who looks for signs: a colon that is quoted is `_`
abbrev pub seen : (quoted : Bool) → ℕ → ℕ
seen quoted b = if quoted && b == 58 then 95 else b

-- the byte quotes a colon behind it: a backslash that isn't behind such a one itself
abbrev pub quotes : (quoted : Bool) → ℕ → Bool
quotes quoted b = is_backslash b && not quoted

-- the text in which quoted colons aren't seen, the first byte quoted or not
abbrev pub seen_from : (quoted : Bool) → List ℕ → List ℕ
seen_from quoted [] = []
seen_from quoted (b ∷ bs) = seen quoted b ∷ seen_from (quotes quoted b) bs

abbrev pub without_quoted : List ℕ → List ℕ
without_quoted text = seen_from false text

-- the text in which the signs of a line are looked for
abbrev pub signs_in : Profile → List ℕ → List ℕ
signs_in profile text = if is_wide profile then without_quoted text else text

-- the text is cut at its first `:` outside references that isn't quoted, whatever the profile
abbrev pub IsColonCut : (text left right : List ℕ) → Type 0
IsColonCut text left right =
    (text ≡ left ++ 58 ∷ right) × (before : List ℕ) × (behind : List ℕ) × (without_quoted text ≡ before ++ 58 ∷ behind) × Whole 58 58 before × (length before ≡ length left)
