use Rattle.std.proofs.Common.{◌≡◌, ◌++◌, drop}
use Rattle.std.specs.Prelude.{map as list_map}
use Rattle.st_answers.proofs.drawing.target_names.Given as goal

abbrev pub invariant-loop-place : goal.invariant-loop-place
invariant-loop-place l = l.names ++ list_map (λ e. e.0) (drop l.place l.named) ≡ list_map (λ e. e.0) l.named
