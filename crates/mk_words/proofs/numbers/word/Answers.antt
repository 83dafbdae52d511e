use Rattle.std.proofs.Common.{◌-◌, ◌^◌, ◌<◌, length, rules, sym}
use Rattle.mk_words.specs.Words.{words_of}
use Rattle.mk_words.specs.Numbers.{number_of}
use Rattle.mk_words.proofs.NumberLemmas.{word-zero, word-found}
use Rattle.mk_words.proofs.numbers.word.Goals as goal

pub returns-in-None-numbered_word : goal.returns-in-None-numbered_word
returns-in-None-numbered_word c =
    word-zero (number_of c.args.number.now) c.in-Some.number (words_of c.args.text.now) (sym c.in-Some.ensures) (sym c.in-None-numbered_word.ensures)

pub returns-in-Some-numbered_word : goal.returns-in-Some-numbered_word
returns-in-Some-numbered_word c =
    let within : length c.args.text.now < 2 ^ 64 - 1 = search rules in
    word-found (number_of c.args.number.now) c.in-Some.number c.args.text.now c.in-Some-numbered_word.found.now within (sym c.in-Some.ensures) (sym c.in-Some-numbered_word.ensures)
