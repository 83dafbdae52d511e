use Rattle.mk_eval.proofs.OutcomeLemmas.{one_given}
use Rattle.mk_eval.proofs.laws.the_outcome_is_given.Goals as goal

pub returns : goal.returns
returns c = one_given
