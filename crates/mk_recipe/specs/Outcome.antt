-- What a recipe came to (make(1S): a recipe stops at the first line with a nonzero status that is not ignored).
use Rattle.std.specs.Prelude.{◌≡◌, ◌⊎◌, ℕ, Bool, IsTrue, List, ◌∷◌, ◌++◌}
use Rattle.std.specs.List.{All}
use Rattle.mk_recipe.specs.declared.line_status.LineStatus.{LineStatus}
use Rattle.mk_recipe.specs.declared.line_status.Outcome.{Outcome}
use Rattle.mk_recipe.specs.declared.line_status.Outcome.TheVariants.{Done, Failed}

-- the recipe goes on behind the line: its status is 0, or the line or the whole run ignores it
abbrev pub Passes : (ignore : Bool) → LineStatus → Type 0
Passes ignore line = (line.status ≡ 0) ⊎ (IsTrue line.is_ignored ⊎ IsTrue ignore)

-- behind lines that pass stands one that doesn't, with this status
pub record StopsWith (ignore : Bool) (lines : List LineStatus) (status : ℕ) : Type 0 where
  pub before : List LineStatus
  pub line : LineStatus
  pub behind : List LineStatus
  pub whole : lines ≡ before ++ line ∷ behind
  pub passed : All (Passes ignore) before
  pub stopped : Passes ignore line → ⊥
  pub status_is : line.status ≡ status

-- done where all lines pass, and else failed with the status of the first that doesn't
abbrev pub IsOutcome : (ignore : Bool) → List LineStatus → Outcome → Type 0
IsOutcome ignore lines Done = All (Passes ignore) lines
IsOutcome ignore lines (Failed status) = StopsWith ignore lines status
