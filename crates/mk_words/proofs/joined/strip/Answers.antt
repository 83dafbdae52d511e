use Rattle.mk_words.specs.Words.{words_of}
use Rattle.mk_words.proofs.SpacedLemmas.{ended-all}
use Rattle.mk_words.proofs.joined.strip.Goals as goal

pub returns : goal.returns
returns c = ended-all c.loop-word.out.items c.without_last.result.items (c.loop-word.word-iterator) (words_of c.args.text.now) (c.in-None.ensures.steps.0) c.loop-word.invariant c.without_last.ensures
