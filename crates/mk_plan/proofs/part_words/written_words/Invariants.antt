use Rattle.std.proofs.Common.{◌≡◌, ◌++◌, map}
use Rattle.mk_plan.proofs.part_words.written_words.Given as goal

abbrev pub invariant-loop-name : goal.invariant-loop-name
invariant-loop-name l = map (λ word. word.now) l.words.items ++ l.name-iterator ≡ l.names
