-- Files in memory.
use Rattle.std.specs.Prelude.{ℕ, List, [], ◌∷◌, if◌then◌else◌}
use Rattle.std.specs.Str.{bytes_eq}
use Rattle.jb_marks.specs.declared.memory.Placed.{Placed}
use Rattle.jb_marks.specs.declared.sights.Sight.{Sight}

-- what was last put under a name, or else this
abbrev pub sight_in : (found : Sight) → List Placed → (name : List ℕ) → Sight
sight_in found [] name = found
sight_in found (p ∷ placed) name = sight_in (if bytes_eq p.name name then p.sight else found) placed name
