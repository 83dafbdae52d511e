use Rattle.st_disk.specs.SystemModel.{nothing_claimed}
use Rattle.st_disk.proofs.system_folder.SystemFolderFolder.write_at.Goals as goal

pub returns-clause-written : goal.returns-clause-written
returns-clause-written c keeps = nothing_claimed keeps

pub returns-clause-passes : goal.returns-clause-passes
returns-clause-passes c keeps = nothing_claimed keeps
