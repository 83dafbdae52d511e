-- Rule lines in which names lose a `./` in front, and words with wildcards give way to the names of the files that fit them (GNU make manual,
-- "Using Wildcard Characters in File Names").
use Rattle.std.specs.Prelude.{ℕ, Bool, ◌||◌, List, map, flat_map, if◌then◌else◌}
use Rattle.mk_macros.specs.Expansion as expansion
use Rattle.mk_macros.specs.Expansion.{gives, fails}
use Rattle.mk_reader.specs.declared.item.Rule.{Rule}
use Rattle.mk_wildcards.specs.Pattern.{has_wildcard}
use Rattle.mk_wildcards.specs.Found.{Folders, joined, steps, line_of}
use Rattle.mk_eval.specs.Short.{has_other_names, renamed}
use Rattle.mk_eval.specs.Static.{doubled}

-- the words of a line, with a wildcard in it those that its words stand for
abbrev pub found_in : Folders → (text : List ℕ) → List ℕ
found_in folders text = if has_wildcard text then line_of folders text else text

-- the names on a line, once it is expanded
abbrev pub listed : Folders → (text : List ℕ) → List ℕ
listed folders text = found_in folders (renamed text)

-- a text of a rule line that came to this: it stands as it is where no name in that has a `./` in front or a wildcard, and where it has a fault,
-- which is told with the line. Names that are found aren't expanded again
abbrev pub listed_text : Folders → (text : List ℕ) → expansion.Outcome → List ℕ
listed_text folders text (gives bytes) = if has_other_names bytes || has_wildcard bytes then doubled (listed folders bytes) else text
listed_text folders text (fails fault) = text

-- a rule whose targets and prerequisites came to these
abbrev pub listed_rule : Folders → Rule → (targets prerequisites : expansion.Outcome) → Rule
listed_rule folders rule targets prerequisites =
    record rule { targets = listed_text folders rule.targets targets; prerequisites = listed_text folders rule.prerequisites prerequisites }

-- where one more part leads behind these ways
abbrev pub stepped : Folders → (is_last : Bool) (part : List ℕ) (ways : List (List ℕ)) → List (List ℕ)
stepped folders is_last part ways = flat_map (λ way. map (joined is_last way) (steps (folders way) is_last part)) ways
