use Rattle.std.proofs.Common.{◌-◌, ◌^◌, ◌<◌, length, rules, sym}
use Rattle.mk_words.specs.Numbers.{number_of}
use Rattle.mk_words.proofs.NumberLemmas.{list-zero, list-found}
use Rattle.mk_words.proofs.numbers.word_list.Goals as goal

pub returns-in-None : goal.returns-in-None
returns-in-None c =
    list-zero (number_of c.args.first.now) (number_of c.args.last.now) c.in-Some-Some.first c.in-Some-Some.last c.args.text.now (sym c.in-Some-Some.ensures) (sym c.in-Some-Some.ensures')
    (sym c.in-None.ensures)

pub returns-in-Some : goal.returns-in-Some
returns-in-Some c =
    let within : length c.args.text.now < 2 ^ 64 - 1 = search rules in
    list-found (number_of c.args.first.now) (number_of c.args.last.now) c.in-Some-Some.first c.in-Some-Some.last c.args.text.now c.in-Some.found.now within (sym c.in-Some-Some.ensures)
    (sym c.in-Some-Some.ensures') (sym c.in-Some.ensures)
