use Rattle.mk_makefile.proofs.StemLemmas.{longer_stem}
use Rattle.mk_makefile.proofs.laws.longer_stems_by_less_beside_them.Goals as goal

pub returns : goal.returns
returns c = longer_stem
