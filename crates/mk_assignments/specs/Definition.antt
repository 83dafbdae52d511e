-- What a text defines, as a relation (GNU make manual, "Setting Variables"; GNU make 4.3).
use Rattle.std.specs.Prelude.{◌≡◌, ℕ, List, ◌++◌, Option, Some, None}
use Rattle.byte_strings.specs.Blanks.{trimmed_start}
use Rattle.mk_assignments.specs.Name.{IsName}
use Rattle.mk_assignments.specs.Sign.{IsSign}
use Rattle.mk_assignments.specs.Reading.{Defined}

-- a name, blanks where there are any, a sign, and the value behind further blanks. Blanks at the end of the value are its own
abbrev pub Defines : (text : List ℕ) → Defined → Type 0
Defines text d =
    (behind mark more : List ℕ) × (text ≡ d.name ++ behind) × IsName behind d.name × (trimmed_start behind ≡ mark ++ more)
    × IsSign mark d.sign × (d.value ≡ trimmed_start more)

-- what a text defines, if it defines anything
abbrev pub Spells : (text : List ℕ) → Option Defined → Type 0
Spells text (Some d) = Defines text d
Spells text None = (d : Defined) → Defines text d → ⊥
