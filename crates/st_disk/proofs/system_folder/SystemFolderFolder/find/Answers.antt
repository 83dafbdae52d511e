use Rattle.st_disk.specs.SystemModel.{nothing_claimed}
use Rattle.st_disk.proofs.system_folder.SystemFolderFolder.find.Goals as goal

pub returns-clause-none : goal.returns-clause-none
returns-clause-none c keeps = nothing_claimed keeps

pub returns-clause-found : goal.returns-clause-found
returns-clause-found c keeps = nothing_claimed keeps
