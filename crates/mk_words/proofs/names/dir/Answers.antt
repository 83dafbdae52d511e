use Rattle.std.proofs.Common.{ap, map}
use Rattle.mk_words.specs.Names.{dir_of}
use Rattle.mk_words.specs.Words.{words_of}
use Rattle.mk_words.proofs.SpacedLemmas.{ended-all}
use Rattle.mk_words.proofs.names.dir.Goals as goal

pub returns : goal.returns
returns c = ended-all c.loop-name.out.items c.without_last.result.items (map dir_of c.loop-name.name-iterator) (map dir_of (words_of c.args.names.now)) (ap (map dir_of) c.in-None.ensures.steps.0) c.loop-name.invariant c.without_last.ensures
