use Rattle.mk_functions.proofs.SortLemmas.{sorts}
use Rattle.mk_functions.proofs.laws.sorted_words_are_a_sort.Goals as goal

pub returns : goal.returns
returns c = λ ws. sorts ws
