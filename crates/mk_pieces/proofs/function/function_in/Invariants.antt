use Rattle.std.proofs.Common.{◌≡◌, drop, bytes_eq}
use Rattle.std.specs.Map.{lookup}
use Rattle.mk_pieces.proofs.function.function_in.Given as goal

abbrev pub invariant-loop-entry : goal.invariant-loop-entry
invariant-loop-entry l = lookup (λ key. bytes_eq key.now l.name) (drop l.entry-index l.table) ≡ lookup (λ key. bytes_eq key.now l.name) l.table
