use Rattle.std.proofs.Common.{sym, ◌∙◌}
use Rattle.mk_words.proofs.WordLemmas.{behind_words-none}
use Rattle.mk_words.proofs.counted.behind_words.Goals as goal

pub returns-in_default : goal.returns-in_default
returns-in_default c = sym (behind_words-none c.loop-left.left c.loop-left.rest.now c.loop-left-test.true c.in_default.ensures.behind) ∙ c.loop-left.invariant
