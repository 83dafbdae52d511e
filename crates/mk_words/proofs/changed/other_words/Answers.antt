use Rattle.std.proofs.Common.{ap, filter, not}
use Rattle.std.specs.Prelude.{is_some}
use Rattle.mk_words.specs.Words.{words_of}
use Rattle.mk_words.specs.Patterns.{stem_of}
use Rattle.mk_words.proofs.SpacedLemmas.{ended-all}
use Rattle.mk_words.proofs.changed.other_words.Goals as goal

pub returns : goal.returns
returns c =
    ended-all c.loop-word.out.items c.without_last.result.items (filter (λ word. not (is_some (stem_of c.args.front.now c.args.behind.now word))) c.loop-word.word-iterator) (filter (λ word. not (is_some (stem_of c.args.front.now c.args.behind.now word))) (words_of c.args.text.now)) (ap (filter (λ word. not (is_some (stem_of c.args.front.now c.args.behind.now word)))) c.in-None.ensures.steps.0)
    c.loop-word.invariant c.without_last.ensures
