use Rattle.std.proofs.Common.{◌≡◌, ◌<◌, ◌≤◌, length, get_or, false, arith}
use Rattle.std.proofs.lemmas.Bool.Decides.{nat_tests}
use Rattle.byte_strings.specs.Blanks.{is_blank}
use Rattle.byte_strings.proofs.WordLemmas.{words-none, words-trimmed_start, trimmed_start-first, words-cons, length-trimmed_start, positive}
use Rattle.byte_strings.proofs.text_words.next_word.Goals as goal

pub returns-then-is_empty-clause-word : goal.returns-then-is_empty-clause-word
returns-then-is_empty-clause-word c =
    let none : length c.trim_start-text.result.now ≡ 0 = grind (arith, nat_tests) in
    words-none c.args.text.now (rw (← c.trim_start-text.ensures) none)

pub returns-clause-word : goal.returns-clause-word
returns-clause-word c =
    let some : 0 < length c.trim_start-text.result.now = grind (arith, nat_tests) in
    let first : is_blank (get_or c.trim_start-text.result.now 0 0) ≡ false = rw c.trim_start-text.ensures (trimmed_start-first c.args.text.now (rw (← c.trim_start-text.ensures) some)) in
    let cut = words-cons c.trim_start-text.result.now c.word_len.result c.word_len.ensures.value some first in
    let whole = words-trimmed_start c.args.text.now in
    cc

pub returns-clause-shorter : goal.returns-clause-shorter
returns-clause-shorter c =
    let some : 0 < length c.trim_start-text.result.now = grind (arith, nat_tests) in
    let first : is_blank (get_or c.trim_start-text.result.now 0 0) ≡ false = rw c.trim_start-text.ensures (trimmed_start-first c.args.text.now (rw (← c.trim_start-text.ensures) some)) in
    let taken = positive c.trim_start-text.result.now some first in
    let left : length c.trim_start-text.result.now ≤ length c.args.text.now = rw c.trim_start-text.ensures (length-trimmed_start c.args.text.now) in
    omega arith
