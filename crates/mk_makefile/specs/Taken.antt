-- Which rule lines are taken.
use Rattle.std.specs.Prelude.{ℕ, ◌≤◌, Bool, List, length}
use Rattle.mk_makefile.specs.Doubles.{AreApart, HasBothKinds}
use Rattle.mk_rule_lines.specs.Pools.{HasPoolFault}
use Rattle.mk_rule_lines.specs.Rules.{targets_by, suffixes_of, recipe_places}
use Rattle.mk_makefile.specs.Supported.{AreSupported, HasRefusedLine}
use Rattle.mk_makefile.specs.Table.{HasTwoRecipes}
use Rattle.mk_rule_lines.specs.declared.fault.RuleFault.{RuleFault}
use Rattle.mk_rule_lines.specs.declared.fault.RuleFault.TheVariants as fault
use Rattle.mk_rule_lines.specs.declared.rule_line.RuleLine.{RuleLine}

-- the lines are taken: each is supported, no name is a target of both kinds of rules, and each name has one recipe at most that
-- isn't one of a line with `::`, as a target and as a suffix rule (make(1S): a target has one recipe)
pub record AreTaken (lines : List RuleLine) : Type 0 where
  pub supported : AreSupported lines
  pub apart : AreApart lines
  pub recipes : (suffix_rules : Bool) (name : List ℕ) → length (recipe_places (targets_by suffix_rules (suffixes_of lines)) 0 lines name) ≤ 1

-- why lines aren't taken
abbrev pub IsTakingFault : List RuleLine → RuleFault → Type 0
IsTakingFault lines fault.OutOfMemory = Unit {0}
IsTakingFault lines (fault.TwoRecipes name line) = (suffix_rules : Bool) × HasTwoRecipes (targets_by suffix_rules (suffixes_of lines)) lines name line
IsTakingFault lines (fault.BothKinds name line) = HasBothKinds lines name line
IsTakingFault lines (fault.Unsupported what line) = HasRefusedLine lines what line
IsTakingFault lines (fault.Pool told) = HasPoolFault lines told
IsTakingFault lines _ = ⊥
