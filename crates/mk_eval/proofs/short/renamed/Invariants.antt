use Rattle.std.proofs.Common.{◌≡◌, ◌++◌, ◌∷◌, length, flat_map}
use Rattle.byte_strings.specs.Blanks.{words}
use Rattle.mk_short_names.specs.Short.{short_name}
use Rattle.mk_eval.specs.Short.{unquoted}
use Rattle.mk_eval.proofs.short.renamed.Given as goal

abbrev pub invariant-loop-word : goal.invariant-loop-word
invariant-loop-word l = l.line.items ++ flat_map (λ word. 32 ∷ unquoted (short_name word)) (words l.rest) ≡ flat_map (λ word. 32 ∷ unquoted (short_name word)) (words l.fn.text.items)

abbrev pub decreases-loop-word : goal.decreases-loop-word
decreases-loop-word l = length l.rest
