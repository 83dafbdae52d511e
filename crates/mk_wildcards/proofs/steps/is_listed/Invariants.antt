use Rattle.std.proofs.Common.{◌≡◌, bytes_eq}
use Rattle.std.specs.List.{list_any}
use Rattle.mk_wildcards.proofs.steps.is_listed.Given as goal

abbrev pub invariant-loop-name : goal.invariant-loop-name
invariant-loop-name l = list_any (bytes_eq l.part) l.name-iterator ≡ list_any (bytes_eq l.part) l.names
