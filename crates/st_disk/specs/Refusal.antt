-- Errors by which a system refuses to write.
use Rattle.std.specs.Prelude.{◌≡◌, ◌⊎◌}
use Rattle.std.specs.declared.io.ErrorKind.{ErrorKind}
use Rattle.std.specs.declared.io.ErrorKind.TheVariants.{PermissionDenied, ReadOnlyFilesystem}

-- by permissions (EACCES, EPERM), or by a file system that is only read (EROFS)
abbrev pub IsRefusal : ErrorKind → Type 0
IsRefusal kind = (kind ≡ PermissionDenied) ⊎ (kind ≡ ReadOnlyFilesystem)
