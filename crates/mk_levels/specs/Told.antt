-- What is told of targets that are taken over. Own.
use Rattle.std.specs.Prelude.{ℕ, List, [], ◌∷◌, ◌++◌, Option, None, Some, find, codes, string_bytes}
use Rattle.std.specs.List.{flat_map}
use Rattle.mk_plan.specs.Telling.{about}
use Rattle.mk_plan.specs.declared.telling.Telling.{Telling}
use Rattle.mk_plan.specs.declared.telling.Telling.TheVariants.{Nothing, Reasons, All, AllMade}
use Rattle.st_records.specs.Parts.{target_of}
use Rattle.st_records.specs.declared.record.Record.{Record}
use Rattle.mk_levels.specs.declared.level.Level.{Level}
use Rattle.mk_levels.specs.Offered.{knows}

-- the line about a target that this level knows
abbrev pub known_by : (name : List ℕ) → Option Level → List ℕ
known_by name None = []
known_by name (Some level) = about name (codes "known by " ++ string_bytes level.name) ++ 10 ∷ []

abbrev pub line_of : List Level → Record → List ℕ
line_of levels note = known_by (target_of note) (find (knows (target_of note)) levels)

-- a line for each record, where reasons are told
abbrev pub told : Telling → List Level → List Record → List ℕ
told Nothing levels notes = []
told Reasons levels notes = flat_map (line_of levels) notes
told All levels notes = flat_map (line_of levels) notes
told AllMade levels notes = []
