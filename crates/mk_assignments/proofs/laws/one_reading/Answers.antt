use Rattle.mk_assignments.proofs.LineLemmas.{says_once}
use Rattle.mk_assignments.proofs.laws.one_reading.Goals as goal

pub returns : goal.returns
returns c = λ text one other x y. says_once text x y
