-- The parts of a recipe line (make(1S), "Command Lines": `+`, `-`, `@`, `?`, `!` in front, in any order and between blanks).
use Rattle.std.specs.Prelude.{◌≡◌, ◌⊎◌, ◌↔◌, ℕ, Bool, false, not, ◌&&◌, ◌||◌, ◌==◌, if◌then◌else◌, IsTrue, List, [], ◌∷◌, ◌++◌, Option, Some, None, codes, take, drop}
use Rattle.std.specs.List.{list_all, list_any, prefix_len}
use Rattle.byte_strings.specs.Blanks.{is_blank}
use Rattle.mk_profile.specs.Profile.{is_wide}
use Rattle.mk_profile.specs.declared.profile.Profile.{Profile}
use Rattle.mk_macros.specs.Mention.{RefersToNewer}
use Rattle.mk_recipe.specs.declared.line.Line.{Line}

-- the byte may stand in front of a line's text: a blank, or one of `+ - @ ? !`
abbrev pub is_front : ℕ → Bool
is_front b = is_blank b || b == 43 || b == 45 || b == 64 || b == 63 || b == 33

-- the blanks and prefixes in front of a line
unfoldable pub front : (expanded : List ℕ) → List ℕ
front expanded = take (prefix_len is_front expanded) expanded

-- what is left of a line behind them
unfoldable pub text_of : (expanded : List ℕ) → List ℕ
text_of expanded = drop (prefix_len is_front expanded) expanded

-- the byte is among these
abbrev pub has : (byte : ℕ) → List ℕ → Bool
has byte bytes = list_any (λ b. b == byte) bytes

-- there are blanks alone
abbrev pub is_blank_text : List ℕ → Bool
is_blank_text text = list_all is_blank text

-- the line isn't compared with what the state has: `?` says so, or `$?` in the unexpanded line; `!` is over both
abbrev pub IsExempt : Profile → (unexpanded expanded : List ℕ) → Type 0
IsExempt profile unexpanded expanded =
    (has 33 (front expanded) ≡ false) × (IsTrue (has 63 (front expanded)) ⊎ RefersToNewer (is_wide profile) unexpanded)

-- these bytes stand in the text, one behind the other, whatever is before and behind them
abbrev pub StandsIn : (bytes text : List ℕ) → Type 0
StandsIn bytes text = (before : List ℕ) × (behind : List ℕ) × (text ≡ before ++ (bytes ++ behind))

-- the unexpanded line calls make by its macro (GNU make manual, "How the MAKE Variable Works"): it is looked for as a text, so
-- also behind a second dollar
abbrev pub CallsMake : (unexpanded : List ℕ) → Type 0
CallsMake unexpanded = StandsIn (codes "$(MAKE)") unexpanded ⊎ StandsIn (codes "${MAKE}") unexpanded

-- the line is run in a dry run too: `+` says so (POSIX make), or it calls make. In the strict profile none is
abbrev pub IsAlwaysRun : Profile → (unexpanded expanded : List ℕ) → Type 0
IsAlwaysRun profile unexpanded expanded =
    IsTrue (is_wide profile) × (IsTrue (has 43 (front expanded)) ⊎ CallsMake unexpanded)

-- the line that these texts give: `@` doesn't print it, nor is a blank line printed; `-` ignores its status
pub record IsLine (profile : Profile) (unexpanded expanded : List ℕ) (line : Line) : Type 0 where
  pub text : line.text ≡ text_of expanded
  pub printed : line.is_printed ≡ (not (has 64 (front expanded)) && not (is_blank_text (text_of expanded)))
  pub ignored : line.is_ignored ≡ has 45 (front expanded)
  pub exempt : IsTrue line.is_exempt ↔ IsExempt profile unexpanded expanded
  pub always : IsTrue line.is_always_run ↔ IsAlwaysRun profile unexpanded expanded

-- the state keeps the line's text: the line isn't exempt, and the text isn't blank
abbrev pub IsRecorded : Line → Type 0
IsRecorded line = (line.is_exempt ≡ false) × (is_blank_text line.text ≡ false)

-- what the state keeps of a line
abbrev pub text_kept : Line → Option (List ℕ)
text_kept line = if not line.is_exempt && not (is_blank_text line.text) then Some line.text else None

-- this is what it keeps of the line that these texts give
pub record IsKept (profile : Profile) (unexpanded expanded : List ℕ) (kept : Option (List ℕ)) : Type 0 where
  pub line : Line
  pub is_line : IsLine profile unexpanded expanded line
  pub is_kept : kept ≡ text_kept line

-- the texts that the state keeps of these lines, in their order
pub data Records : List Line → List (List ℕ) → Type 0 where
  nothing : Records [] []
  kept : {lines : List Line} {texts : List (List ℕ)} (line : Line) →
      IsRecorded line → Records lines texts → Records (line ∷ lines) (line.text ∷ texts)
  left_out : {lines : List Line} {texts : List (List ℕ)} (line : Line) →
      (IsRecorded line → ⊥) → Records lines texts → Records (line ∷ lines) texts
