use Rattle.std.proofs.Common.{◌<◌, ◌∙◌, length, ap, map, arith}
use Rattle.std.proofs.lemmas.Bool.Decides.{nat_tests}
use Rattle.mk_words.specs.Words.{words_of}
use Rattle.mk_words.specs.Patterns.{pattern_of}
use Rattle.mk_words.specs.Changed.{changed}
use Rattle.mk_words.proofs.ChangedLemmas.{changed-some}
use Rattle.mk_words.proofs.SpacedLemmas.{ended-all}
use Rattle.mk_words.proofs.changed.changed_words.Goals as goal

pub returns : goal.returns
returns c =
    let front = c.args.front.now in
    let behind = c.args.behind.now in
    let to = pattern_of c.args.replacement.now in
    let some : 0 < length c.args.replacement.now = grind (arith, nat_tests) in
    ended-all c.loop-word.out.items c.without_last.result.items (map (changed front behind to) c.loop-word.word-iterator) (map (changed front behind to) (words_of c.args.text.now))
    (ap (map (changed front behind to)) c.in-None.ensures.steps.0) c.loop-word.invariant c.without_last.ensures
    ∙ changed-some front behind c.args.replacement.now c.args.text.now some
