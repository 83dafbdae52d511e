use Rattle.mk_taken.proofs.LawLemmas.{reads_once}
use Rattle.mk_taken.proofs.laws.one_outcome.Goals as goal

pub returns : goal.returns
returns c = λ w left place one other x y.
    reads_once w (c.one_outcome.ensures w) (c.one_outcome-2.ensures w) left place one other x y
