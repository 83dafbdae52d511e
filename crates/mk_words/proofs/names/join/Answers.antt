use Rattle.mk_words.specs.Names.{paired}
use Rattle.mk_words.specs.Words.{words_of}
use Rattle.mk_words.proofs.SpacedLemmas.{ended-all}
use Rattle.mk_words.proofs.names.join.Goals as goal

pub returns : goal.returns
returns c = ended-all c.loop-word-2.out.items c.without_last.result.items (c.loop-word-2.word-iterator) (paired (words_of c.args.first.now) (words_of c.args.second.now)) (c.in-None-word.ensures.steps.0) c.loop-word-2.invariant c.without_last.ensures
