-- How far a text was read, and what its next statement comes to there.
use Rattle.std.specs.Prelude.{ℕ, Bool, List, Option}
use Rattle.mk_conditionals.specs.declared.branch.Branch.{Branch}
use Rattle.mk_conditionals.specs.declared.branch.NestFault.{NestFault}
use Rattle.mk_conditionals.specs.Lines as conditionals
use Rattle.mk_statements.specs.declared.course.Rule.{Rule}
use Rattle.mk_statements.specs.declared.said.Fault.{Fault}
use Rattle.mk_statements.specs.Reading.{Stated}
use Rattle.mk_variables.specs.Table.{Table}
use Rattle.mk_variables.specs.Statement.{Refusal}
use Rattle.mk_taken.specs.Test.{NoAnswer}

-- what the variables are, which conditionals are open, and what lines behind a TAB belong to
pub record Place : Type 0 where
  pub table : Table
  pub nest : List Branch
  pub rule : Rule

-- a statement that counts and that says nothing of conditionals and variables: a recipe's line, `include`, `vpath`, `load`, or a line to be expanded with
-- what stands behind its `;`
pub data Other : Type 0 where
  recipe : (text : List ℕ) → Other
  includes : (required : Bool) (names : List ℕ) → Other
  searches : (text : List ℕ) → Other
  loads : (required : Bool) (names : List ℕ) → Other
  expands : (text : List ℕ) (behind : Option (List ℕ)) → Other

-- why a statement that counts ends the reading
pub data Why : Type 0 where
  conditional : (why : conditionals.Why NoAnswer) → Why
  variable : (refusal : Refusal) → Why
  line : (fault : Fault) → Why

-- what a statement comes to: reading goes on behind it; or it is another one, which decides of what comes behind it; or it is refused
pub data Step : Type 0 where
  goes_on : (place : Place) → Step
  hands : (place : Place) (other : Other) → Step
  refuses : (why : Why) → Step

-- what statements come to: all of them were read; or the first of the others that counts, with its line and the statements behind it; or the first that
-- is refused; or conditionals are open at the end
pub data Outcome : Type 0 where
  ends : (place : Place) → Outcome
  reaches : (place : Place) (number : ℕ) (other : Other) (left : List Stated) → Outcome
  refused : (number : ℕ) (why : Why) → Outcome
  unended : (fault : NestFault) → Outcome
