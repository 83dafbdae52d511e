-- The text of marks that are what looks told. Own.
use Rattle.std.specs.Prelude.{◌≡◌, ◌⊎◌, ℕ, List, [], Option}
use Rattle.st_marks.specs.Encoding.{IsText}
use Rattle.st_marks.specs.declared.mark.Mark.{Mark}
use Rattle.jb_marks.specs.declared.sights.Sight.{Sight}
use Rattle.jb_marks.specs.Each.{EachWith}
use Rattle.jb_marks.specs.Single.{IsMarkOf}

-- the text of the marks of what looks told, of a target with this source; none where no text can say them
abbrev pub IsTextOfSights : (source : Option (List ℕ)) → List Sight → (text : List ℕ) → Type 0
IsTextOfSights source sights text =
    (marks : List Mark) × EachWith IsMarkOf sights marks
    × (IsText source marks text ⊎ ((text ≡ []) × ((other : List ℕ) → IsText source marks other → ⊥)))
