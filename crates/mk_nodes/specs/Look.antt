-- The times that looks at names tell.
use Rattle.std.specs.Option.{option_map_or}
use Rattle.std.specs.Ordering.{int_eq}
use Rattle.std.specs.Prelude.{ℕ, ℤ, Bool, false, ◌&&◌, List, Option, option_map, is_some}
use Rattle.mk_nodes.specs.declared.file_look.FileLook.{FileLook}
use Rattle.mk_nodes.specs.declared.file_look.TheConstants.{OLD_TIME}

-- when the file was last changed; none where there is no file
abbrev pub time_of : Option FileLook → Option ℤ
time_of look = option_map (λ file. file.time) look

abbrev pub times_of : (looks : List ℕ → Option FileLook) → List ℕ → Option ℤ
times_of looks name = time_of (looks name)

-- the file is one that is taken as old, whatever lies there: it isn't remade, and nothing is remade on account of it (GNU make manual,
-- "Options Summary", -o). It is told by a time that no file has (own)
abbrev pub is_old : FileLook → Bool
is_old file = is_some file.size && int_eq file.time OLD_TIME

abbrev pub is_taken_as_old : Option FileLook → Bool
is_taken_as_old look = option_map_or is_old look false
