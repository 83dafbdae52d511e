-- The name in front of a sign (GNU make manual, "Basics of Variable References", "Setting Variables"; GNU make 4.3): references hide the signs and
-- blanks that stand in them.
use Rattle.std.specs.Prelude.{◌≡◌, ℕ, Bool, false, ◌&&◌, ◌||◌, ◌==◌, List, [], ◌∷◌, ◌++◌, codes}
use Rattle.byte_strings.specs.Blanks.{is_blank}
use Rattle.mk_conditionals.specs.Spelled.{begins_with}
use Rattle.mk_assignments.specs.declared.name.Brackets.{Brackets}
use Rattle.mk_assignments.specs.declared.name.Brackets.TheVariants.{Round, Curly}

abbrev pub opening : Brackets → ℕ
opening Round = 40
opening Curly = 123

abbrev pub closing : Brackets → ℕ
closing Round = 41
closing Curly = 125

-- brackets of a kind come in pairs; of the other kind they count for nothing
pub data IsPaired (kind : Brackets) : (text : List ℕ) → Type 0 where
  nothing : IsPaired kind []
  other : {text : List ℕ} (b : ℕ) → (b == opening kind) ≡ false → (b == closing kind) ≡ false → IsPaired kind text → IsPaired kind (b ∷ text)
  pair : {inner text : List ℕ} → IsPaired kind inner → IsPaired kind text → IsPaired kind (opening kind ∷ (inner ++ closing kind ∷ text))

-- `!`, `+` and `?` are bytes of a name where no `=` stands behind them
abbrev pub is_half : ℕ → Bool
is_half b = b == 33 || b == 43 || b == 63

-- a name ends in front of a blank, a `#`, a `:`, and a sign
abbrev pub ends_name : (b : ℕ) → (behind : List ℕ) → Bool
ends_name b behind = is_blank b || b == 35 || b == 58 || b == 61 || (is_half b && begins_with (codes "=") behind)

-- a name with this behind it: bytes, `$` with one byte, and references in brackets
pub data IsName (behind : List ℕ) : (name : List ℕ) → Type 0 where
  nothing : IsName behind []
  byte : {name : List ℕ} (b : ℕ) → (b == 36) ≡ false → ends_name b (name ++ behind) ≡ false → IsName behind name → IsName behind (b ∷ name)
  single : {name : List ℕ} (b : ℕ) → (b == 40) ≡ false → (b == 123) ≡ false → IsName behind name → IsName behind (36 ∷ b ∷ name)
  bracketed : {name : List ℕ} (kind : Brackets) (inside : List ℕ) → IsPaired kind inside → IsName behind name →
      IsName behind (36 ∷ opening kind ∷ (inside ++ closing kind ∷ name))
