-- The body of a `define` (GNU make manual, "Defining Multi-Line Variables"; GNU make 4.3).
use Rattle.std.specs.Prelude.{◌≡◌, ℕ, zero, suc, ◌+◌, Bool, false, not, ◌&&◌, ◌==◌, List, [], ◌∷◌, ◌++◌, Option, Some, None, codes, bytes_eq, if◌then◌else◌}
use Rattle.byte_strings.specs.Blanks.{is_nonempty}
use Rattle.mk_conditionals.specs.Cut.{front_word, behind_word}
use Rattle.mk_conditionals.specs.declared.define.BodyLine.{BodyLine}
use Rattle.mk_conditionals.specs.declared.define.BodyLine.TheVariants.{Inside, Ends}

abbrev pub begins_with : ℕ → List ℕ → Bool
begins_with byte [] = false
begins_with byte (b ∷ bs) = b == byte

-- text that is no comment
abbrev pub has_text : List ℕ → Bool
has_text rest = is_nonempty rest && not (begins_with 35 rest)

-- an `endef` ends the innermost one
abbrev pub ends : (depth : ℕ) → (rest : List ℕ) → BodyLine
ends zero rest = Ends (has_text rest)
ends (suc depth) rest = Inside depth

abbrev pub told_by : (depth : ℕ) → (word rest : List ℕ) → BodyLine
told_by depth word rest =
    if bytes_eq word (codes "define") then Inside (depth + 1) else (if not (bytes_eq word (codes "endef")) then Inside depth else ends depth rest)

-- what a line is where so many inner ones are open; one that begins with a TAB is a recipe's, whatever its word
unfoldable pub body_line : (depth : ℕ) → (line : List ℕ) → BodyLine
body_line depth line = if begins_with 9 line then Inside depth else told_by depth (front_word line) (behind_word line)

-- how many are open behind some lines, unless the body ends among them
abbrev pub open_after : BodyLine → (ℕ → Option ℕ) → Option ℕ
open_after (Inside depth) rest = rest depth
open_after (Ends text_behind) rest = None

abbrev pub open_behind : (depth : ℕ) → List (List ℕ) → Option ℕ
open_behind depth [] = Some depth
open_behind depth (line ∷ more) = open_after (body_line depth line) (λ now. open_behind now more)

-- lines in which each `define` has its `endef`
pub data AreWhole : List (List ℕ) → Type 0 where
  none : AreWhole []
  text : {line : List ℕ} {more : List (List ℕ)} → ((depth : ℕ) → body_line depth line ≡ Inside depth) → AreWhole more → AreWhole (line ∷ more)
  inner : (first last : List ℕ) (body more : List (List ℕ)) → ((depth : ℕ) → body_line depth first ≡ Inside (suc depth)) → AreWhole body →
      ((depth : ℕ) → body_line (suc depth) last ≡ Inside depth) → AreWhole more → AreWhole (first ∷ (body ++ last ∷ more))
