use Rattle.std.proofs.Common.{◌≡◌, ◌<◌, length, arith}
use Rattle.std.proofs.lemmas.Bool.Decides.{nat_tests}
use Rattle.jb_flags.proofs.WordLemmas.{finds_start, finds_next, left_smaller, finds_end}
use Rattle.jb_flags.proofs.words.words_of.Goals as goal

pub loop-rest-init : goal.loop-rest-init
loop-rest-init c =
    finds_start c.args.makeflags.now c.behind_blanks-rest.result.now c.empty-words.result c.behind_blanks-rest.ensures c.empty-words.ensures

pub loop-rest-smaller : goal.loop-rest-smaller
loop-rest-smaller c =
    let some : 0 < length c.loop-rest.rest.now = grind (arith, nat_tests) in
    left_smaller c.in_ok-word.word.items c.loop-rest.rest.now c.in_ok-word.behind.now c.behind_blanks-rest-in-loop-rest.result.now
    c.behind_blanks-rest-in-loop-rest.ensures some c.in_ok-word.ensures c.loop-rest.invariant.1

pub loop-rest-preserved : goal.loop-rest-preserved
loop-rest-preserved c =
    let some : 0 < length c.loop-rest.rest.now = grind (arith, nat_tests) in
    finds_next c.loop-rest.words c.push.new.self c.args.makeflags.now c.loop-rest.rest.now c.in_ok-word.word.items c.deref.result.now c.in_ok-word.behind.now
    c.behind_blanks-rest-in-loop-rest.result.now c.in_ok-push.ensures.ok c.deref.ensures.value c.behind_blanks-rest-in-loop-rest.ensures some
    c.in_ok-word.ensures c.loop-rest.invariant

pub returns : goal.returns
returns c =
    let none : length c.loop-rest.rest.now ≡ 0 = grind (arith, nat_tests) in
    finds_end c.loop-rest.words c.args.makeflags.now c.loop-rest.rest.now none c.loop-rest.invariant
