-- Which names a source may have.
use Rattle.std.specs.Prelude.{ℕ, Bool, ◌||◌, List, Option, is_some}
use Rattle.mk_nodes.specs.declared.file_look.FileLook.{FileLook}
use Rattle.mk_makefile.specs.Table.{is_named, named_at}
use Rattle.mk_makefile.specs.declared.table.TargetTable.{TargetTable}

-- some line makes the name, or there is a file of it
abbrev pub is_there : TargetTable → (looks : List ℕ → Option FileLook) → (name : List ℕ) → Bool
is_there table looks name = is_named (named_at table name) || is_some (looks name)
