use Rattle.jb_flags.proofs.WordLemmas.{one_reading}
use Rattle.jb_flags.proofs.laws.one_reading.Goals as goal

pub returns : goal.returns
returns c = λ text words others is was. one_reading text words others is was
