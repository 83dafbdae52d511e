-- The folders that are to be synced.
use Rattle.std.specs.Prelude.{ℕ, Bool, List, nat_eq}
use Rattle.std.specs.String.{string_bytes}
use Rattle.std.specs.Cmp.Lexicographic.{pointwise}
use Rattle.jb_host.specs.declared.shared_syncs.Folder.{Folder}

-- whether a folder has this name
abbrev pub is_named : (name : List ℕ) → Folder → Bool
is_named name folder = pointwise nat_eq (string_bytes folder.name) name
