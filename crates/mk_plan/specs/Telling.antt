-- What is told of a target that is passed (make(1S), -d). What -dd tells is our own.
use Rattle.std.specs.Prelude.{ℕ, List, [], ◌∷◌, ◌++◌, map, codes}
use Rattle.mk_plan.specs.Passage.{Passage, to_make, finished}
use Rattle.mk_plan.specs.declared.change.Change.{Change}
use Rattle.mk_plan.specs.declared.telling.Telling.{Telling}
use Rattle.mk_plan.specs.declared.telling.Telling.TheVariants.{Nothing, Reasons, All, AllMade}
use Rattle.plain_text.specs.Plain.{plain}

-- a line about a target, without control characters
abbrev pub about : (target text : List ℕ) → List ℕ
about target text = plain (codes "dmk: " ++ target ++ codes ": " ++ text)

-- such a line with this label for each text
abbrev pub lines_for : (target label : List ℕ) → (texts : List (List ℕ)) → List (List ℕ)
lines_for target label texts = map (λ text. about target (label ++ text)) texts

-- what has changed of it
abbrev pub change_lines : (target : List ℕ) → Change → List (List ℕ)
change_lines target change = lines_for target (codes "was: ") change.was ++ lines_for target (codes "now: ") change.is

-- what is told of a target: why its recipe is listed; or of -dd also what has changed, and that one is up to date. Where the user
-- has all targets made (-B), that is why, whatever is recorded
abbrev pub lines_about : Telling → Passage → List (List ℕ)
lines_about Nothing passage = []
lines_about Reasons (to_make target why lines) = about target why.words ∷ []
lines_about Reasons (finished target) = []
lines_about All (to_make target why lines) = about target why.words ∷ change_lines target why.change
lines_about All (finished target) = about target (codes "up to date") ∷ []
lines_about AllMade (to_make target why lines) = about target (codes "made by -B") ∷ []
lines_about AllMade (finished target) = []
