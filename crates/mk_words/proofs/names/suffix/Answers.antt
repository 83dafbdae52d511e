use Rattle.std.proofs.Common.{ap, filter, map}
use Rattle.byte_strings.specs.Blanks.{is_nonempty}
use Rattle.mk_words.specs.Names.{suffix_of}
use Rattle.mk_words.specs.Words.{words_of}
use Rattle.mk_words.proofs.SpacedLemmas.{ended-all}
use Rattle.mk_words.proofs.names.suffix.Goals as goal

pub returns : goal.returns
returns c = ended-all c.loop-name.out.items c.without_last.result.items (filter is_nonempty (map suffix_of c.loop-name.name-iterator)) (filter is_nonempty (map suffix_of (words_of c.args.names.now))) (ap (λ ns. filter is_nonempty (map suffix_of ns)) c.in-None.ensures.steps.0) c.loop-name.invariant c.without_last.ensures
