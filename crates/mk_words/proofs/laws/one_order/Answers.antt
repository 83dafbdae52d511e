use Rattle.mk_words.proofs.SortedLemmas.{one_sort}
use Rattle.mk_words.proofs.laws.one_order.Goals as goal

pub returns : goal.returns
returns c = λ ws a b h k. one_sort ws a b h k
