-- The look that a stamp keeps.
use Rattle.std.specs.Prelude.{Option, Some, None}
use Rattle.mk_nodes.specs.declared.file_look.FileLook.{FileLook}
use Rattle.mk_nodes.specs.declared.stamp.Kept.{Kept}
use Rattle.mk_nodes.specs.declared.stamp.Kept.TheVariants as kept

abbrev pub look_kept : Kept → Option FileLook
look_kept kept.Nothing = None
look_kept (kept.Near time) = Some (record { time = time; size = None })
look_kept (kept.NearFile size time) = Some (record { time = time; size = Some size })
look_kept (kept.Far look) = Some look.value
