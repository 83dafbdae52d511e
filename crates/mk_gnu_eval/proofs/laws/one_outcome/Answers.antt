use Rattle.mk_gnu_eval.proofs.LawLemmas.{reads_once}
use Rattle.mk_gnu_eval.proofs.laws.one_outcome.Goals as goal

pub returns : goal.returns
returns c = λ world levels file text now one other x y.
    reads_once world (c.one_outcome.ensures world.answers) (c.one_outcome-2.ensures world.answers)
    (λ v after line a b. c.one_outcome-3.ensures world.answers v after line a b) levels file text now one other x y
