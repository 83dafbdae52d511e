-- Which lines count: in the wide profile a pattern rule without a recipe takes implicit rules above it away, and doesn't count itself
-- (GNU make manual, "Canceling Implicit Rules"; of suffix rules those that stand in a line alone: own).
use Rattle.std.specs.Prelude.{◌≡◌, ◌⊎◌, ℕ, List, [], ◌∷◌, ◌++◌, Contains}
use Rattle.std.specs.List.{Any}
use Rattle.mk_macros.specs.Ranks.{Defined}
use Rattle.mk_profile.specs.declared.profile.Profile.{Profile}
use Rattle.mk_profile.specs.declared.profile.Profile.TheVariants.{Strict, Posix}
use Rattle.mk_reader.specs.declared.item.Item.{Item}
use Rattle.mk_rule_lines.specs.Kinds.{IsRule, HasSingleRecipe, IsOnePattern}
use Rattle.mk_rule_lines.specs.Lines.{AreRuleLines}
use Rattle.mk_rule_lines.specs.Rules.{suffixes_of}
use Rattle.mk_rule_lines.specs.declared.rule_line.RuleLine.{RuleLine}

-- a pattern rule of one target and one prerequisite, with one `%` in each, and without a recipe
pub record IsTaking (l : RuleLine) : Type 0 where
  pub rule : IsRule l
  pub target : IsOnePattern l.targets
  pub source : IsOnePattern l.prerequisites
  pub no_recipe : l.recipe ≡ []

-- both have the same target and the same prerequisite
abbrev pub IsSamePattern : (l taking : RuleLine) → Type 0
IsSamePattern l taking = (l.targets ≡ taking.targets) × (l.prerequisites ≡ taking.prerequisites)

-- the line is that of the suffix rule `st`, or `s`, alone, and the other one is `%t : %s`, or `% : %s`
pub record IsSuffixRuleOf (suffixes : List (List ℕ)) (l taking : RuleLine) : Type 0 where
  pub s : List ℕ
  pub t : List ℕ
  pub first : Contains suffixes s
  pub second : (t ≡ []) ⊎ Contains suffixes t
  pub targets : l.targets ≡ (s ++ t) ∷ []
  pub prerequisites : l.prerequisites ≡ []
  pub recipe : HasSingleRecipe l
  pub target : taking.targets ≡ (37 ∷ t) ∷ []
  pub source : taking.prerequisites ≡ (37 ∷ s) ∷ []

-- such a rule takes the rule lines of its form away
pub record Takes (suffixes : List (List ℕ)) (l taking : RuleLine) : Type 0 where
  pub is_taking : IsTaking taking
  pub rule : IsRule l
  pub form : IsSamePattern l taking ⊎ IsSuffixRuleOf suffixes l taking

-- these are the lines that count: those that take nothing away, and that no line below them takes away
pub data AreLeft (suffixes : List (List ℕ)) : (lines left : List RuleLine) → Type 0 where
  no_lines : AreLeft suffixes [] []
  counts : {l : RuleLine} {lines left : List RuleLine} → (IsTaking l → ⊥) → (Any (Takes suffixes l) lines → ⊥) → AreLeft suffixes lines left →
      AreLeft suffixes (l ∷ lines) (l ∷ left)
  goes : {l : RuleLine} {lines left : List RuleLine} → IsTaking l ⊎ Any (Takes suffixes l) lines → AreLeft suffixes lines left → AreLeft suffixes (l ∷ lines) left

-- the lines that count in a profile: all of them in the strict one
abbrev pub AreInForce : Profile → (lines left : List RuleLine) → Type 0
AreInForce Strict lines left = left ≡ lines
AreInForce Posix lines left = AreLeft (suffixes_of lines) lines left

-- the lines of a makefile's items that count
pub record AreLinesInForce (given : Defined) (items : List Item) (left : List RuleLine) : Type 0 where
  pub lines : List RuleLine
  pub are : AreRuleLines given items lines
  pub in_force : AreInForce given.language lines left
