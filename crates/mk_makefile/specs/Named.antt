-- What is there of a target, and targets by number.
use Rattle.std.specs.Prelude.{ℕ, List, [], ◌∷◌, Option, Some, None, bytes_eq, if◌then◌else◌}
use Rattle.mk_makefile.specs.declared.table.ManyLines.{ManyLines}
use Rattle.mk_makefile.specs.declared.table.Target.{Target}
use Rattle.mk_makefile.specs.declared.table.Target.TheVariants.{WithoutRecipe, WithRecipe, Many}

-- the lines that name a target, in order, and the line that has its recipe, if it isn't one with `::`
pub record Named : Type 0 where
  pub lines : List ℕ
  pub recipe : Option ℕ

abbrev pub nothing_named : Named
nothing_named = record { lines = []; recipe = None }

abbrev pub shown_lines : ManyLines → Named
shown_lines lines = record { lines = lines.numbers.items; recipe = lines.recipe }

abbrev pub shown_target : Target → Named
shown_target (WithoutRecipe line) = record { lines = line ∷ []; recipe = None }
shown_target (WithRecipe line) = record { lines = line ∷ []; recipe = Some line }
shown_target (Many lines) = shown_lines lines.value

-- targets by number: their names, and what is there of each
pub record NumberedTargets : Type 0 where
  pub names : List (List ℕ)
  pub named : List Named

-- what is there of the target of the name's number
abbrev pub named_in : (names : List (List ℕ)) → List Named → (name : List ℕ) → Named
named_in [] those name = nothing_named
named_in (n ∷ names) [] name = nothing_named
named_in (n ∷ names) (this ∷ those) name = if bytes_eq name n then this else named_in names those name
