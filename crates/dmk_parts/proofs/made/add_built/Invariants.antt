use Rattle.dmk_parts.specs.Tried.{AddsSome}
use Rattle.dmk_parts.proofs.made.add_built.Given as goal

abbrev pub invariant-loop-one : goal.invariant-loop-one
invariant-loop-one g l = record {
  without : AddsSome l.made l.initial.without l.without;
  filed : AddsSome l.made l.initial.filed l.filed;
}
