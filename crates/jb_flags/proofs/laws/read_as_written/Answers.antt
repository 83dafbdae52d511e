use Rattle.jb_flags.proofs.WordLemmas.{read_as_written}
use Rattle.jb_flags.proofs.laws.read_as_written.Goals as goal

pub returns : goal.returns
returns c = λ words all. read_as_written words all
