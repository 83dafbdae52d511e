use Rattle.std.proofs.Common.{subst}
use Rattle.mk_depfiles.specs.Written.{Writes}
use Rattle.mk_depfiles.proofs.WrittenLemmas.{words_written, written_read}
use Rattle.mk_depfiles.proofs.laws.words_are_as_written.Goals as goal

pub returns : goal.returns
returns c = λ line told. ((λ e. subst (Writes line) e (words_written line)), written_read line told)
