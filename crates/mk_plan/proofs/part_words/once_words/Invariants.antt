use Rattle.std.proofs.Common.{◌≡◌, map, take}
use Rattle.mk_plan.proofs.part_words.once_words.Given as goal

abbrev pub invariant-loop-number : goal.invariant-loop-number
invariant-loop-number l = map (λ word. word.now) l.words.items ≡ take l.number l.names
