use Rattle.st_disk.specs.SystemModel.{nothing_claimed}
use Rattle.st_disk.proofs.system_folder.SystemFolderFolder.len.Goals as goal

pub returns-clause-len : goal.returns-clause-len
returns-clause-len c keeps = nothing_claimed keeps
