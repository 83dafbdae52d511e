use Rattle.std.proofs.Common.{◌≡◌, ◌++◌, ◌∷◌, flat_map}
use Rattle.mk_eval.proofs.listed.push_words.Given as goal

abbrev pub invariant-loop-name : goal.invariant-loop-name
invariant-loop-name l = l.line.items ++ flat_map (λ name. 32 ∷ name) l.name-iterator ≡ l.initial.line.items ++ flat_map (λ name. 32 ∷ name) l.names
