-- What kind a rule line is, and what its targets are: told of the line, whatever order it is looked at in.
use Rattle.std.specs.Prelude.{◌≡◌, ◌≢◌, ◌⊎◌, ℕ, Bool, false, not, List, [], ◌∷◌, ◌++◌, Some, None, Contains, codes}
use Rattle.std.specs.List.{All, Any, list_any}
use Rattle.mk_macros.specs.Spelled.{Lacks}
use Rattle.mk_macros.specs.Words.{is_byte}
use Rattle.mk_profile.specs.declared.profile.Profile.{Profile}
use Rattle.mk_profile.specs.declared.profile.Profile.TheVariants.{Strict, Posix}
use Rattle.mk_reader.specs.declared.special.SpecialName.TheVariants.{Default, Phony}
use Rattle.mk_rule_lines.specs.declared.rule_line.RuleLine.{RuleLine}

-- a line that is no special rule
abbrev pub IsRule : RuleLine → Type 0
IsRule l = l.special ≡ None

-- a recipe of one empty line is one too: `x: ;`
abbrev pub HasRecipe : RuleLine → Type 0
HasRecipe l = l.recipe ≢ []

-- it has one of which a name has just one: the line is none with `::`
abbrev pub HasSingleRecipe : RuleLine → Type 0
HasSingleRecipe l = (l.is_double ≡ false) × HasRecipe l

-- a pattern rule: a `%` stands in a target
abbrev pub IsPatternRule : RuleLine → Type 0
IsPatternRule l = IsRule l × Any (λ target. Contains target 37) l.targets

-- a pattern rule leaves the folders of names aside in the wide profile, where its target has no `/` (GNU make manual, "How Patterns
-- Match")
abbrev pub leaves_folders : Profile → (target : List ℕ) → Bool
leaves_folders Strict target = false
leaves_folders Posix target = not (list_any (is_byte 47) target)

-- a name with one `%`
abbrev pub IsPattern : (name : List ℕ) → Type 0
IsPattern name = (before : List ℕ) × (after : List ℕ) × (name ≡ before ++ 37 ∷ after) × Lacks 37 before × Lacks 37 after

-- one name, with one `%`
abbrev pub IsOnePattern : (names : List (List ℕ)) → Type 0
IsOnePattern names =
    (before : List ℕ) × (after : List ℕ) × (names ≡ (before ++ 37 ∷ after) ∷ []) × Lacks 37 before × Lacks 37 after

-- the first of these names has a `%`
abbrev pub BeginsWithPattern : (names : List (List ℕ)) → Type 0
BeginsWithPattern [] = ⊥
BeginsWithPattern (name ∷ names) = Contains name 37

abbrev pub HasSlash : (name : List ℕ) → Type 0
HasSlash name = Contains name 47

-- what may be the targets of a pattern rule: in the strict profile one with one `%` (make(1S), "Pattern Matching Rules"); in the wide one
-- any number of such (GNU make manual, "Pattern Intro"), of which each has a `/` or none has: so they have one stem (own)
abbrev pub MayBeMade : Profile → (targets : List (List ℕ)) → Type 0
MayBeMade Strict targets = IsOnePattern targets
MayBeMade Posix targets = All IsPattern targets × (All HasSlash targets ⊎ (Any HasSlash targets → ⊥))

-- what may be the prerequisites of a pattern rule: in the strict profile one name with one `%` (make(1S), "Pattern Matching Rules");
-- in the wide one any names, also none, and behind a bar order-only ones (GNU make manual, "Pattern Rules"; without `.WAIT`, and `%`
-- alone only from a first one with a `%`: own)
abbrev pub MayMake : Profile → (targets prerequisites : List (List ℕ)) → Type 0
MayMake Strict targets prerequisites = IsOnePattern prerequisites
MayMake Posix targets prerequisites =
    (Contains prerequisites (codes ".WAIT") → ⊥) × ((Contains targets (37 ∷ []) → ⊥) ⊎ BeginsWithPattern prerequisites)

-- a pattern rule that is taken: what may be made from what may make it, by a recipe
pub record IsWholePatternRule (l : RuleLine) : Type 0 where
  pub rule : IsRule l
  pub targets : MayBeMade l.profile l.targets
  pub prerequisites : MayMake l.profile l.targets l.prerequisites
  pub recipe : HasRecipe l

-- one suffix, or two joined
abbrev pub IsSuffixName : (suffixes : List (List ℕ)) (name : List ℕ) → Type 0
IsSuffixName suffixes name = Contains suffixes name ⊎ Any (λ s. Any (λ t. name ≡ s ++ t) suffixes) suffixes

-- a target of this name would be a suffix rule in the line, which has a recipe and no prerequisites (make(1S), "Suffix
-- Rules"; POSIX make, "Inference Rules")
pub record IsSuffixRule (suffixes : List (List ℕ)) (l : RuleLine) (name : List ℕ) : Type 0 where
  pub prerequisites : l.prerequisites ≡ []
  pub recipe : HasSingleRecipe l
  pub name_is : IsSuffixName suffixes name

-- a line of `.PHONY`, whose targets are the names that it lists (POSIX make, .PHONY)
abbrev pub IsPhonyList : RuleLine → Type 0
IsPhonyList l = l.special ≡ Some Phony

-- a line of `.DEFAULT`, which has the recipe for what nothing else makes (POSIX make, .DEFAULT)
abbrev pub IsDefaultRule : RuleLine → Type 0
IsDefaultRule l = l.special ≡ Some Default

-- it stands alone there, with `:`, without prerequisites, and with a recipe
pub record IsWholeDefault (l : RuleLine) : Type 0 where
  pub targets : l.targets ≡ codes ".DEFAULT" ∷ []
  pub prerequisites : l.prerequisites ≡ []
  pub recipe : HasSingleRecipe l

-- the line has the name among its targets, and is a rule that is no pattern rule, or lists phony names, or is that of `.DEFAULT`
pub record Mentions (l : RuleLine) (name : List ℕ) : Type 0 where
  pub makes : IsPhonyList l ⊎ (IsDefaultRule l ⊎ (IsRule l × (IsPatternRule l → ⊥)))
  pub target : Contains l.targets name

-- the line is one of the name's rules (make(1S), "Rules"), and it has the suffix rule of this name
abbrev pub IsRuleFor : (suffixes : List (List ℕ)) (name : List ℕ) (l : RuleLine) → Type 0
IsRuleFor suffixes name l = Mentions l name × (IsSuffixRule suffixes l name → ⊥)

abbrev pub IsSuffixRuleFor : (suffixes : List (List ℕ)) (name : List ℕ) (l : RuleLine) → Type 0
IsSuffixRuleFor suffixes name l = Mentions l name × IsSuffixRule suffixes l name
