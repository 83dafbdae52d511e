use Rattle.std.proofs.Common.{◌≡◌, ◌+◌, rules}
use Rattle.mk_words.proofs.WordLemmas.{numbered-first}
use Rattle.mk_words.proofs.counted.numbered_word.Goals as goal

pub returns : goal.returns
returns c =
    let number : c.args.number ≡ c.in_ok-before.before + 1 = search rules in
    numbered-first c.args.number c.in_ok-before.before c.args.text.now c.behind_words.result.now c.first_word.result.now number c.behind_words.ensures c.first_word.ensures
