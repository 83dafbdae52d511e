-- How a recipe is run. Own.
use Rattle.std.specs.Prelude.{◌≡◌, ◌≤◌, Bool, true, false, List, [], ◌∷◌, ◌++◌, Result, Ok, Err}
use Rattle.mk_recipe.specs.declared.line.Line.{Line}
use Rattle.mk_recipe.specs.declared.line_status.LineStatus.{LineStatus}
use Rattle.mk_recipe.specs.declared.line_status.Outcome.{Outcome}
use Rattle.mk_recipe.specs.declared.line_status.Outcome.TheVariants.{Done, Failed}
use Rattle.mk_recipe.specs.Line.{is_blank_text}
use Rattle.mk_recipe.specs.Outcome.{Passes, IsOutcome}
use Rattle.bd_lists.specs.declared.exec.Ended.{Ended}
use Rattle.bd_lists.specs.declared.exec.ExecFault.{ExecFault}

-- how a line ended, by what was answered: one that couldn't be run ends with status 256 and no output
abbrev pub ended_by : Result Ended ExecFault → Ended
ended_by (Ok ended) = ended
ended_by (Err fault) = record { status = 256; out = []; err = [] }

-- the line ended as one of the answers says
abbrev pub IsAnswer : (Result Ended ExecFault → Type 0) → Ended → Type 0
IsAnswer answers ended = (answer : Result Ended ExecFault) × answers answer × (ended ≡ ended_by answer)

abbrev pub status_of : Line → Ended → LineStatus
status_of line ended = record { status = ended.status; is_ignored = line.is_ignored }

-- the lines that aren't blank are run in order while each passes, and end so, with these statuses
pub data Runs (answers : Line → Result Ended ExecFault → Type 0) (ignore : Bool) : List Line → List Ended → List LineStatus → Type 0 where
  all_ran : Runs answers ignore [] [] []
  left_out : {lines : List Line} {ended : List Ended} {statuses : List LineStatus} (line : Line) → is_blank_text line.text ≡ true
      → Runs answers ignore lines ended statuses → Runs answers ignore (line ∷ lines) ended statuses
  went_on : {lines : List Line} {ended : List Ended} {statuses : List LineStatus} (line : Line) (e : Ended) → is_blank_text line.text ≡ false
      → IsAnswer (answers line) e → Passes ignore (status_of line e)
      → Runs answers ignore lines ended statuses → Runs answers ignore (line ∷ lines) (e ∷ ended) (status_of line e ∷ statuses)
  stopped : {lines : List Line} (line : Line) (e : Ended) → is_blank_text line.text ≡ false
      → IsAnswer (answers line) e → (Passes ignore (status_of line e) → ⊥)
      → Runs answers ignore (line ∷ lines) (e ∷ []) (status_of line e ∷ [])

-- a run of these lines added to the answers before, and came to this
pub record RanTo (answers : Line → Result Ended ExecFault → Type 0) (ignore : Bool) (lines : List Line) (before after : List Ended) (outcome : Outcome) : Type 0 where
  pub ended : List Ended
  pub statuses : List LineStatus
  pub added : after ≡ before ++ ended
  pub runs : Runs answers ignore lines ended statuses
  pub comes_to : IsOutcome ignore statuses outcome

-- a recipe fails with a status that a line can end with: 0 to 255, or 256 where the line was stopped or not started
abbrev pub FailsInRange : Outcome → Type 0
FailsInRange Done = Unit {0}
FailsInRange (Failed status) = status ≤ 256
