-- The commands that a recipe gives the state to keep, against those that the state has.
use Rattle.std.specs.Prelude.{◌≡◌, ℕ, Bool, List, ◌++◌, option_to_list}
use Rattle.mk_macros.specs.Expansion.{Meanings}
use Rattle.mk_reader.specs.declared.item.RecipeLine.{RecipeLine}
use Rattle.mk_recipe.specs.Line.{text_kept}
use Rattle.mk_recipe.specs.Tests.{recorded_texts}
use Rattle.mk_recipe.specs.declared.line.Line.{Line}
use Rattle.mk_rule_lines.specs.declared.rule_line.RuleLine.{RuleLine}
use Rattle.mk_nodes.specs.declared.graph.Graph.{Graph}
use Rattle.mk_plan.specs.Recipe.{IsExpandedLine, AreExpanded, AreLinesIn}

-- the line gives what stands first among these commands, and then those are left; or nothing, and all are
pub record GivesFirst (meanings : Meanings) (raw : RecipeLine) (commands left : List (List ℕ)) : Type 0 where
  pub line : Line
  pub expanded : IsExpandedLine meanings raw line
  pub first : commands ≡ option_to_list (text_kept line) ++ left

-- these are the commands that the lines give the state to keep
abbrev pub GivesCommands : (meanings : Meanings) → List RecipeLine → (commands : List (List ℕ)) → Type 0
GivesCommands meanings recipe commands = (lines : List Line) × AreExpanded meanings recipe lines × (recorded_texts lines ≡ commands)

-- so they are of the part of node n's recipe that this line has
abbrev pub PartGives : Graph → (marks : List Bool) → (n : ℕ) → RuleLine → (commands : List (List ℕ)) → Type 0
PartGives graph marks n l commands = (lines : List Line) × AreLinesIn graph marks n l lines × (recorded_texts lines ≡ commands)
