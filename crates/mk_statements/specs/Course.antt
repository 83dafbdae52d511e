-- Which lines behind a TAB are a recipe's (GNU make manual, "Recipe Syntax"; GNU make 4.3): told by what is open among the lines that count. Whether
-- these do is told by mk_conditionals.
use Rattle.std.specs.Prelude.{ℕ, List}
use Rattle.mk_statements.specs.Told.{Told, nothing, conditional, variable, define, includes, searches, loads, expands, refused, told_by}
use Rattle.mk_statements.specs.Reading.{Meaning, plain, tab}
use Rattle.mk_statements.specs.declared.course.Rule.{Rule}
use Rattle.mk_statements.specs.declared.course.Rule.TheVariants.{Closed, Open, WithoutTargets}
use Rattle.mk_statements.specs.declared.course.Role as code
use Rattle.mk_statements.specs.declared.course.Role.TheVariants as roles

pub data Role : Type 0 where
  recipe_line : (text : List ℕ) → Role
  passed_over : Role
  says : (told : Told) → Role

-- behind a TAB a line is a recipe's where a rule is open, and no line of anything where that has no targets
abbrev pub role_in : Rule → Meaning → Role
role_in rule (plain told) = says told
role_in Closed (tab text told) = says told
role_in Open (tab text told) = recipe_line text
role_in WithoutTargets (tab text told) = passed_over

-- a line that counts ends the rule that is open, but for blank lines and conditionals; one that is expanded leaves what it came to: a rule
-- with targets or without, or none, as a definition for targets is
abbrev pub rule_behind : Rule → Told → (came_to : Rule) → Rule
rule_behind rule nothing came_to = rule
rule_behind rule (conditional said) came_to = rule
rule_behind rule (variable said) came_to = Closed
rule_behind rule (define modifiers line body text_behind) came_to = Closed
rule_behind rule (includes required names) came_to = Closed
rule_behind rule (searches text) came_to = Closed
rule_behind rule (loads required names) came_to = Closed
rule_behind rule (expands text recipe) came_to = came_to
rule_behind rule (refused fault) came_to = rule

abbrev pub role_by : code.Role → Role
role_by (roles.Recipe text) = recipe_line text.now
role_by roles.PassedOver = passed_over
role_by (roles.Says said) = says (told_by said)
