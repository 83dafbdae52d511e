use Rattle.dmk_files.proofs.ListedLemmas.{not_true}
use Rattle.dmk_files.proofs.file_tree.FileTreeTree.first_stamp.Goals as goal

pub first_look-requires : goal.first_look-requires
first_look-requires g c = not_true _ c.requires
