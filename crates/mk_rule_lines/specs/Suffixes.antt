-- The suffixes that count: those of the last list (make(1S), .SUFFIXES; that a name keeps its place: own). Told of all lines
-- at once, which `suffixes_of` of `Rules` goes through one by one.
use Rattle.std.specs.Prelude.{◌≡◌, ◌⊎◌, ℕ, List, [], ◌∷◌, ◌++◌, Some, Contains}
use Rattle.std.specs.List.{All}
use Rattle.mk_reader.specs.declared.special.SpecialName.TheVariants.{Suffixes}
use Rattle.mk_rule_lines.specs.declared.rule_line.RuleLine.{RuleLine}

-- a `.SUFFIXES` line
abbrev pub IsSuffixList : RuleLine → Type 0
IsSuffixList l = l.special ≡ Some Suffixes

-- one without names, which clears the list
abbrev pub Clears : RuleLine → Type 0
Clears l = IsSuffixList l × (l.prerequisites ≡ [])

-- nothing, or lines of which the last one clears the list
abbrev pub EndCleared : List RuleLine → Type 0
EndCleared lines = (lines ≡ []) ⊎ ((above : List RuleLine) × (l : RuleLine) × (lines ≡ above ++ l ∷ []) × Clears l)

-- the names of all `.SUFFIXES` lines among these, in order
pub data AreListed : List RuleLine → (names : List (List ℕ)) → Type 0 where
  no_lines : AreListed [] []
  a_list : {l : RuleLine} {lines : List RuleLine} {names : List (List ℕ)} →
      IsSuffixList l → AreListed lines names → AreListed (l ∷ lines) (l.prerequisites ++ names)
  no_list : {l : RuleLine} {lines : List RuleLine} {names : List (List ℕ)} →
      (IsSuffixList l → ⊥) → AreListed lines names → AreListed (l ∷ lines) names

-- the names that aren't among those before, each at its first mention alone
pub data AreFirst : (before names found : List (List ℕ)) → Type 0 where
  no_names : {before : List (List ℕ)} → AreFirst before [] []
  new : {before names found : List (List ℕ)} {name : List ℕ} →
      (Contains before name → ⊥) → AreFirst (before ++ name ∷ []) names found → AreFirst before (name ∷ names) (name ∷ found)
  known : {before names found : List (List ℕ)} {name : List ℕ} →
      Contains before name → AreFirst before names found → AreFirst before (name ∷ names) found

-- the suffixes are the names that are listed below the last line that clears the list, each at its first mention alone
pub record AreSuffixes (lines : List RuleLine) (suffixes : List (List ℕ)) : Type 0 where
  pub above : List RuleLine
  pub below : List RuleLine
  pub whole : lines ≡ above ++ below
  pub cleared : EndCleared above
  pub not_cleared : All (λ l. Clears l → ⊥) below
  pub names : List (List ℕ)
  pub listed : AreListed below names
  pub first : AreFirst [] names suffixes
