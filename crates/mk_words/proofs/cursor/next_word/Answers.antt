use Rattle.std.proofs.Common.{◌≡◌, ◌<◌, ◌≤◌, length, get_or, false, arith}
use Rattle.std.proofs.lemmas.Bool.Decides.{nat_tests}
use Rattle.mk_words.specs.Words.{is_space, behind_word}
use Rattle.mk_words.proofs.WordLemmas.{words_of-none, words_of-behind_spaces, behind_spaces-first, behind_word-none, words_of-cons, length-behind_spaces, positive}
use Rattle.mk_words.proofs.cursor.next_word.Goals as goal

pub returns-then-is_empty-clause-word : goal.returns-then-is_empty-clause-word
returns-then-is_empty-clause-word c =
    let none : length c.behind_spaces-text.result.now ≡ 0 = grind (arith, nat_tests) in
    words_of-none c.args.text.now (rw (← c.behind_spaces-text.ensures) none)

pub returns-then-is_empty-clause-behind : goal.returns-then-is_empty-clause-behind
returns-then-is_empty-clause-behind c =
    let none : length c.behind_spaces-text.result.now ≡ 0 = grind (arith, nat_tests) in
    behind_word-none c.args.text.now (rw (← c.behind_spaces-text.ensures) none)

pub returns-clause-word : goal.returns-clause-word
returns-clause-word c =
    let some : 0 < length c.behind_spaces-text.result.now = grind (arith, nat_tests) in
    let first : is_space (get_or c.behind_spaces-text.result.now 0 0) ≡ false = rw c.behind_spaces-text.ensures (behind_spaces-first c.args.text.now (rw (← c.behind_spaces-text.ensures) some)) in
    let cut = words_of-cons c.behind_spaces-text.result.now c.word_len.result c.word_len.ensures.value some first in
    let whole = words_of-behind_spaces c.args.text.now in
    cc

pub returns-clause-behind : goal.returns-clause-behind
unfolding behind_word
returns-clause-behind c = cc

pub returns-clause-shorter : goal.returns-clause-shorter
returns-clause-shorter c =
    let some : 0 < length c.behind_spaces-text.result.now = grind (arith, nat_tests) in
    let first : is_space (get_or c.behind_spaces-text.result.now 0 0) ≡ false = rw c.behind_spaces-text.ensures (behind_spaces-first c.args.text.now (rw (← c.behind_spaces-text.ensures) some)) in
    let taken = positive c.behind_spaces-text.result.now some first in
    let left : length c.behind_spaces-text.result.now ≤ length c.args.text.now = rw c.behind_spaces-text.ensures (length-behind_spaces c.args.text.now) in
    omega arith
