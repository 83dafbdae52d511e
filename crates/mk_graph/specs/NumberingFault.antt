-- What each refusal of the numbering says of its input. Own.
use Rattle.std.specs.Prelude.{◌≡◌, ℕ, ◌<◌, true, List, length}
use Rattle.mk_names.specs.Names.{has_name}
use Rattle.mk_graph.specs.Numbering.{IsNumbering}
use Rattle.mk_graph.specs.declared.numbering.NumberingFault.{NumberingFault}
use Rattle.mk_graph.specs.declared.numbering.NumberingFault.TheVariants.{OutOfMemory, TooMany, Source}

-- there are more names than the limit, or no memory for them
abbrev pub IsLimitFault : {F : Type 0} (limit : ℕ) (names : List (List ℕ)) → NumberingFault F → Type 0
IsLimitFault limit names OutOfMemory = Unit {0}
IsLimitFault limit names TooMany = limit < length names
IsLimitFault limit names (Source cause) = ⊥

-- the fault stands in the input: `allowed` are the functions from a name to its prerequisites that agree with all that was
-- answered, `refuses` tells for which names and why prerequisites weren't given
abbrev pub IsNumberingFault : {F : Type 0} (allowed : (List ℕ → List (List ℕ)) → Type 0) (refuses : List ℕ → F → Type 0) (goals : List (List ℕ)) (limit : ℕ)
    → NumberingFault F → Type 0
IsNumberingFault allowed refuses goals limit OutOfMemory = Unit {0}
IsNumberingFault allowed refuses goals limit TooMany =
    (of : List ℕ → List (List ℕ)) → allowed of → (names : List (List ℕ)) → IsNumbering of goals names → limit < length names
IsNumberingFault allowed refuses goals limit (Source cause) =
    (name : List ℕ) × refuses name cause
    × ((of : List ℕ → List (List ℕ)) → allowed of → (names : List (List ℕ)) → IsNumbering of goals names → has_name names name ≡ true)
