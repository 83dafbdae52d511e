-- What the lines of makefiles say of targets, in the order of reading, and why reading ends (own).
use Rattle.std.specs.Prelude.{ℕ, List, Result}
use Rattle.mk_assignments.specs.Reading.{Defined}
use Rattle.mk_assignments.specs.declared.statement.Modifiers.{Modifiers}
use Rattle.mk_conditionals.specs.declared.branch.NestFault.{NestFault}
use Rattle.mk_functions.specs.Outcome as values
use Rattle.mk_taken.specs.Place.{Why}
use Rattle.mk_target_lines.specs.Rule.{Rule}
use Rattle.mk_target_lines.specs.declared.fault.Fault.{Fault}
use Rattle.mk_variables.specs.Table.{Table}

-- a rule, a line of the recipe of the rule before it, a definition for targets, or a line of `vpath`
pub data Said : Type 0 where
  says_rule : (it : Rule) → Said
  says_recipe : (text : List ℕ) → Said
  says_definition : (targets : List (List ℕ)) (modifiers : Modifiers) (defined : Defined) → Said
  says_search : (text : List ℕ) → Said

-- what a line of a file says
pub record Item : Type 0 where
  pub file : List ℕ
  pub line : ℕ
  pub said : Said

-- why a line ends the reading: its statement is refused; it comes to nothing that can be taken; a text of it has no value; a file that it includes isn't
-- there, or is too deep; or it loads an object
pub data Cause : Type 0 where
  statement : (why : Why) → Cause
  target_line : (fault : Fault) → Cause
  no_value : (fault : values.Fault) → Cause
  missing_file : (name : List ℕ) → Cause
  too_deep : (name : List ℕ) → Cause
  loads_object : Cause

-- the line that ends the reading, or the conditional that is open at the end of a file
pub data Refusal : Type 0 where
  in_line : (file : List ℕ) (line : ℕ) (cause : Cause) → Refusal
  unended : (file : List ℕ) (fault : NestFault) → Refusal

-- what was read so far: the variables, and the items
pub record Progress : Type 0 where
  pub table : Table
  pub items : List Item

abbrev pub Outcome : Type 0
Outcome = Result Progress Refusal
