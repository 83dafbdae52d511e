use Rattle.std.proofs.Common.{[], ap, map, Some}
use Rattle.mk_words.specs.Words.{words_of}
use Rattle.mk_words.specs.Changed.{changed}
use Rattle.mk_words.proofs.SpacedLemmas.{ended-all}
use Rattle.mk_words.proofs.changed.changed_ends.Goals as goal

pub returns : goal.returns
returns c =
    let end = c.args.end.now in
    let to = c.args.to.now in
    ended-all c.loop-word.out.items c.without_last.result.items (map (changed [] end ([], Some to)) c.loop-word.word-iterator) (map (changed [] end ([], Some to)) (words_of c.args.text.now))
    (ap (map (changed [] end ([], Some to))) c.in-None.ensures.steps.0) c.loop-word.invariant c.without_last.ensures
