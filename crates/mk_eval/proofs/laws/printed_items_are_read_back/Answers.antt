use Rattle.mk_eval.proofs.OutcomeLemmas.{printed_given}
use Rattle.mk_eval.proofs.laws.printed_items_are_read_back.Goals as goal

pub returns : goal.returns
returns c = printed_given
