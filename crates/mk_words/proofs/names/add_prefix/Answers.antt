use Rattle.std.proofs.Common.{ap, map, ◌++◌}
use Rattle.mk_words.specs.Words.{words_of}
use Rattle.mk_words.proofs.SpacedLemmas.{ended-all}
use Rattle.mk_words.proofs.names.add_prefix.Goals as goal

pub returns : goal.returns
returns c = ended-all c.loop-name.out.items c.without_last.result.items (map (λ name. c.args.prefix.now ++ name) c.loop-name.name-iterator) (map (λ name. c.args.prefix.now ++ name) (words_of c.args.names.now)) (ap (map (λ name. c.args.prefix.now ++ name)) c.in-None.ensures.steps.0) c.loop-name.invariant c.without_last.ensures
