use Rattle.mk_verdict.proofs.ByTimesLemmas.{by_times}
use Rattle.mk_verdict.proofs.laws.without_marks_by_times.Goals as goal

pub returns : goal.returns
returns c = λ keeping entry target reason none. by_times keeping entry target reason none
