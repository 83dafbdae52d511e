-- The lines of a listing that are run in a dry run too, and how much of it is printed before each. Own; that a line is run
-- behind its own printed text is how GNU make and BSD make have it.
use Rattle.std.specs.Prelude.{ℕ, ◌+◌, Bool, true, false, not, ◌&&◌, List, [], ◌∷◌, ◌++◌, length, if◌then◌else◌}
use Rattle.std.specs.List.{flat_map}
use Rattle.mk_plan.specs.Passage.{Passage, to_make, finished}
use Rattle.mk_plan.specs.Telling.{lines_about}
use Rattle.mk_plan.specs.declared.passing.Passed.{Passed}
use Rattle.mk_plan.specs.declared.passing.Passed.TheVariants as passed
use Rattle.mk_plan.specs.declared.telling.Telling.{Telling}
use Rattle.mk_recipe.specs.Line.{is_blank_text}
use Rattle.mk_recipe.specs.declared.line.Line.{Line}
use Rattle.dmk_dry.specs.Listing.{printed_line, text_of, passage_text}
use Rattle.dmk_dry.specs.declared.always_run.AlwaysRun.{AlwaysRun}

-- the line of this target's recipe, where it is run in a dry run too, behind so many bytes. A blank line is never run
abbrev pub always_at : (target : List ℕ) (place : ℕ) → Line → List AlwaysRun
always_at target place line =
    if line.is_always_run && not (is_blank_text line.text)
    then record { place = place; target = target; text = line.text; is_ignored = line.is_ignored } ∷ []
    else []

-- those of a recipe that is printed, behind so many bytes: each stands behind its own line
unfoldable pub always_behind : (target : List ℕ) (place : ℕ) → List Line → List AlwaysRun
always_behind target place [] = []
always_behind target place (line ∷ lines) =
    always_at target (place + length (printed_line line)) line ++ always_behind target (place + length (printed_line line)) lines

-- those of a recipe; where recipes aren't printed, all stand in one place
abbrev pub always_in : (recipes : Bool) (target : List ℕ) (place : ℕ) → List Line → List AlwaysRun
always_in true target place lines = always_behind target place lines
always_in false target place lines = flat_map (always_at target place) lines

-- those of a target that is listed, behind what is told of it
abbrev pub always_of : Telling → (recipes : Bool) (place : ℕ) → Passage → List AlwaysRun
always_of telling recipes place (to_make target why lines) =
    always_in recipes target (place + length (text_of (lines_about telling (to_make target why lines)))) lines
always_of telling recipes place (finished target) = []

-- those of a node that was passed
abbrev pub always_passed : (recipes : Bool) (target : List ℕ) (place : ℕ) → Passed → List AlwaysRun
always_passed recipes target place (passed.Listed why lines) = always_in recipes target place lines.items
always_passed recipes target place passed.Remade = []
always_passed recipes target place passed.UpToDate = []
always_passed recipes target place passed.Left = []

-- those of several targets, one behind the other
unfoldable pub always_from : Telling → (recipes : Bool) (place : ℕ) → List Passage → List AlwaysRun
always_from telling recipes place [] = []
always_from telling recipes place (passage ∷ listed) =
    always_of telling recipes place passage ++ always_from telling recipes (place + length (passage_text telling recipes passage)) listed

-- the lines of a listing that are run in a dry run too, in its order
abbrev pub lines_run_always : Telling → (recipes : Bool) → List Passage → List AlwaysRun
lines_run_always telling recipes listed = always_from telling recipes 0 listed
