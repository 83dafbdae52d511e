-- What is told of the line at which a recipe stopped. Own.
use Rattle.std.specs.Prelude.{◌≡◌, ◌⊎◌, ℕ, ◌+◌, ◌-◌, List, [], ◌∷◌, ◌++◌, length, slice_get, Option, Some, None, if◌then◌else◌}
use Rattle.mk_recipe.specs.Line.{is_blank_text}
use Rattle.mk_recipe.specs.declared.line.Line.{Line}
use Rattle.mk_recipe.specs.declared.line_status.Outcome.{Outcome}
use Rattle.mk_recipe.specs.declared.line_status.Outcome.TheVariants.{Done, Failed}
use Rattle.bd_lists.specs.declared.exec.Ended.{Ended}
use Rattle.jb_recipe.specs.declared.failing.FailedLine.{FailedLine}

-- its number, and what it ran, where that wasn't printed
abbrev pub told_of : (n : ℕ) → Line → FailedLine
told_of n line = record { number = n; text = if line.is_printed then None else Some line.text }

-- a blank line isn't run, so nothing is told of it
abbrev pub told_at : (n : ℕ) → Line → List FailedLine
told_at n line = if is_blank_text line.text then [] else told_of n line ∷ []

-- of each line of a recipe that is run, in their order, where the first has number n
unfoldable pub told_from : (n : ℕ) → List Line → List FailedLine
told_from n [] = []
told_from n (line ∷ lines) = told_at n line ++ told_from (n + 1) lines

-- what is told, where of these lines so many were run: of the last of them, where the recipe failed, since it stops there
abbrev pub IsToldOf : Outcome → List FailedLine → (count : ℕ) → Option FailedLine → Type 0
IsToldOf Done told count failed = failed ≡ None
IsToldOf (Failed status) told count failed = failed ≡ slice_get told (count - 1)

-- what a run tells of its recipe's lines: that, or nothing, where nothing is to be told or there is no room for it
abbrev pub IsTold : Outcome → List Line → List Ended → Option FailedLine → Type 0
IsTold outcome lines ended failed = (failed ≡ None) ⊎ IsToldOf outcome (told_from 0 lines) (length ended) failed
