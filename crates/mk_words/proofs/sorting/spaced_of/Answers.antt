use Rattle.std.proofs.Common.{ap, map}
use Rattle.mk_words.proofs.SortedLemmas.{bytes_at}
use Rattle.mk_words.proofs.SpacedLemmas.{ended-all}
use Rattle.mk_words.proofs.sorting.spaced_of.Goals as goal

pub returns-clause-text : goal.returns-clause-text
returns-clause-text c =
    ended-all c.loop-word.out.items c.without_last.result.items (map bytes_at c.loop-word.word-iterator) (map bytes_at c.args.words.now.keys) (ap (map bytes_at) c.in-None.ensures.steps.0)
    c.loop-word.invariant c.without_last.ensures
