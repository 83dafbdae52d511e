-- How the names of a state begin and end. Own.
use Rattle.std.specs.Prelude.{◌≡◌, ℕ, List, false, None}
use Rattle.std.specs.FinMap as map
use Rattle.name_keys.specs.Ends.{may_have}
use Rattle.name_keys.specs.declared.ends.NameEnds.{NameEnds}
use Rattle.st_state.specs.State.{StateMap}

-- a name that begins or ends otherwise isn't in the state
abbrev pub AreEndsOf : NameEnds → StateMap → Type 0
AreEndsOf ends m = (name : List ℕ) → may_have ends name ≡ false → map.get m name ≡ None
