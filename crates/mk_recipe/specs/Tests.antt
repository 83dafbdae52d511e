-- What the private functions compute, by one test after the other. `Line` and `Outcome` say what it means.
use Rattle.std.specs.Prelude.{ℕ, Bool, not, ◌&&◌, ◌||◌, ◌==◌, List, map, filter}
use Rattle.mk_recipe.specs.declared.line.Line.{Line}
use Rattle.mk_recipe.specs.declared.line_status.LineStatus.{LineStatus}
use Rattle.mk_recipe.specs.Line.{is_blank_text}

-- the recipe doesn't go on behind the line
abbrev pub stops : (ignore : Bool) → LineStatus → Bool
stops ignore line = not (line.status == 0) && not (line.is_ignored || ignore)

-- the line's text is one of those that the state keeps
abbrev pub is_recorded : Line → Bool
is_recorded line = not line.is_exempt && not (is_blank_text line.text)

-- the texts of the lines that pass this test
abbrev pub recorded_texts : List Line → List (List ℕ)
recorded_texts lines = map (λ line. line.text) (filter is_recorded lines)
