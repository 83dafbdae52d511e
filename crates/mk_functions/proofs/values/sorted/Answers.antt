use Rattle.std.proofs.Common.{◌∙◌, ap}
use Rattle.mk_words.specs.Words.{words_of, spaced}
use Rattle.mk_words.proofs.SortedLemmas.{one_sort}
use Rattle.mk_functions.specs.Values.{sorted_words}
use Rattle.mk_functions.proofs.SortLemmas.{sorts}
use Rattle.mk_functions.proofs.values.sorted.Goals as goal

pub returns : goal.returns
returns c =
    let ws = words_of c.args.text.now in
    let h = c.in_ok-made.ensures in
    h.2 ∙ ap spaced (one_sort ws h.0 (sorted_words ws) h.1 (sorts ws))
