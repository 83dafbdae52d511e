-- Looks at files in memory.
use Rattle.std.specs.Prelude.{ℕ, ℤ, ◌%◌, ◌^◌, Some}
use Rattle.mk_nodes.specs.declared.file_look.FileLook.{FileLook}

-- a look at an ordinary file of this time and so many bytes
abbrev pub look_at : (time : ℤ) (bytes : ℕ) → FileLook
look_at time bytes = record { time = time; size = Some (bytes % 2 ^ 32) }
