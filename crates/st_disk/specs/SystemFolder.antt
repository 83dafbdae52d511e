-- What clauses see of a `SystemFolder` and of its files.
use Rattle.std.specs.Prelude.{ℕ, List}
use Rattle.std.specs.String.{string_bytes}
use Rattle.st_disk.specs.declared.which.Which.{Which}
use Rattle.st_disk.specs.declared.system_folder.SystemFolder.{SystemFolder}
use Rattle.st_disk.specs.declared.system_folder.SystemFile.{SystemFile}
use Rattle.st_disk.specs.Which.{pick}

-- the name of a side's file
abbrev pub file_name : SystemFolder → Which → List ℕ
file_name folder = pick (string_bytes folder.a) (string_bytes folder.b)

-- the name of the folder that a file stands in
abbrev pub folder_name : SystemFile → List ℕ
folder_name file = string_bytes file.folder
