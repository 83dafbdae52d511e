use Rattle.std.proofs.Common.{◌≡◌, ◌++◌, drop}
use Rattle.std.specs.Prelude.{map as list_map}
use Rattle.std.specs.List.{flat_map}
use Rattle.st_answers.specs.Compilations.{compiled, compiled_for}
use Rattle.st_answers.proofs.compiling.compilations.Given as goal

abbrev pub invariant-loop-place : goal.invariant-loop-place
invariant-loop-place l =
    list_map compiled l.found.items ++ flat_map (compiled_for l.all) (drop l.place l.named) ≡ flat_map (compiled_for l.all) l.named
