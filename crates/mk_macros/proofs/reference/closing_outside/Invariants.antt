use Rattle.std.proofs.Common.{◌≡◌, ◌+◌, ◌-◌, ◌≤◌, false, length, drop, option_map}
use Rattle.mk_macros.specs.Reference.{closing_from}
use Rattle.mk_macros.proofs.reference.closing_outside.Given as goal

abbrev pub invariant-loop-at : goal.invariant-loop-at
invariant-loop-at l = record {
  within : l.at ≤ length l.text;
  deep : l.depth ≤ l.at;
  found : closing_from l.opening l.close 0 false l.text ≡ option_map (λ i. i + l.at) (closing_from l.opening l.close l.depth l.is_behind_dollar (drop l.at l.text));
}

abbrev pub decreases-loop-at : goal.decreases-loop-at
decreases-loop-at l = length l.text - l.at
