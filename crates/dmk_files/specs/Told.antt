-- What is told of a file by what is kept of it.
use Rattle.std.specs.Prelude.{Option, Some, None}
use Rattle.mk_nodes.specs.declared.file_look.FileLook.{FileLook}
use Rattle.dmk_files.specs.declared.told.Kept.{Kept}
use Rattle.dmk_files.specs.declared.told.Kept.TheVariants as kept

-- nothing, that there is no file, or what a look at it told
abbrev pub told_kept : Kept → Option (Option FileLook)
told_kept kept.Untold = None
told_kept kept.NoFile = Some None
told_kept (kept.Near time) = Some (Some (record { time = time; size = None }))
told_kept (kept.NearFile size time) = Some (Some (record { time = time; size = Some size }))
told_kept (kept.Far look) = Some (Some look.value)
