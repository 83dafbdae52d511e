use Rattle.st_disk.specs.SystemModel.{nothing_claimed}
use Rattle.st_disk.proofs.system_folder.SystemFolderFolder.set_len.Goals as goal

pub returns-clause-passes : goal.returns-clause-passes
returns-clause-passes c keeps = nothing_claimed keeps
