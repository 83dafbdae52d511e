-- Which rule lines are refused. Own: make(1S) has target groups, library members and further forms of pattern rules.
use Rattle.std.specs.Prelude.{◌≡◌, ◌⊎◌, ℕ, List, Some, slice_get, codes, Contains}
use Rattle.std.specs.List.{All, Any}
use Rattle.mk_makefile.specs.Doubles.{IsImplicitDouble}
use Rattle.mk_rule_lines.specs.Kinds.{IsRule, IsPatternRule, IsDefaultRule, IsWholeDefault, IsWholePatternRule}
use Rattle.mk_rule_lines.specs.declared.fault.Unsupported.{Unsupported}
use Rattle.mk_rule_lines.specs.declared.fault.Unsupported.TheVariants.{TargetGroup, LibraryMember, DoubleColon, PatternRule, DefaultRule}
use Rattle.mk_rule_lines.specs.declared.fault.RuleFault.{RuleFault}
use Rattle.mk_rule_lines.specs.declared.fault.RuleFault.TheVariants.{Unsupported as Refused}
use Rattle.mk_rule_lines.specs.declared.rule_line.RuleLine.{RuleLine}

-- a name with the bracket of a library member, as in `lib(member)`
abbrev pub HasBracket : (name : List ℕ) → Type 0
HasBracket name = Contains name 40

-- a rule line is refused for this cause: a target `+`, a bracket in a target or a prerequisite, a target of an implicit rule in a line
-- with `::`, or a `%` in a target of a line that isn't what may be made, what may make it, and a recipe. Special rules are not, but for one
-- of `.DEFAULT` that doesn't stand alone, or has prerequisites, or no recipe (POSIX make, .DEFAULT)
abbrev pub IsRefused : Unsupported → RuleLine → Type 0
IsRefused TargetGroup l = IsRule l × Contains l.targets (codes "+")
IsRefused LibraryMember l = IsRule l × (Any HasBracket l.targets ⊎ Any HasBracket l.prerequisites)
IsRefused DoubleColon l = IsRule l × IsImplicitDouble l
IsRefused PatternRule l = IsPatternRule l × (IsWholePatternRule l → ⊥)
IsRefused DefaultRule l = IsDefaultRule l × (IsWholeDefault l → ⊥)

-- a line is refused for no cause
pub record IsSupported (l : RuleLine) : Type 0 where
  pub group : IsRefused TargetGroup l → ⊥
  pub member : IsRefused LibraryMember l → ⊥
  pub double : IsRefused DoubleColon l → ⊥
  pub pattern : IsRefused PatternRule l → ⊥
  pub default : IsRefused DefaultRule l → ⊥

-- some line with this number in its file is refused for this cause
pub record HasRefusedLine (lines : List RuleLine) (what : Unsupported) (number : ℕ) : Type 0 where
  pub place : ℕ
  pub line : RuleLine
  pub at : slice_get lines place ≡ Some line
  pub refused : IsRefused what line
  pub numbered : line.line ≡ number

-- each line is supported
abbrev pub AreSupported : List RuleLine → Type 0
AreSupported lines = All IsSupported lines

-- the fault is that of a refused line
abbrev pub IsRefusal : List RuleLine → RuleFault → Type 0
IsRefusal lines (Refused what number) = HasRefusedLine lines what number
IsRefusal lines _ = ⊥
