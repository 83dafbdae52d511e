use Rattle.mk_macros.proofs.PartLemmas.{directory_of-behind, directory_of-root, file_of-behind, no_slash}
use Rattle.mk_macros.proofs.laws.parts_of_words.Goals as goal

pub returns : goal.returns
returns c = record {
  directory = directory_of-behind;
  root = directory_of-root;
  file = file_of-behind;
  no_slash = no_slash;
}
