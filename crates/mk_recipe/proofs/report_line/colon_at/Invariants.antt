use Rattle.std.proofs.Common.{◌≡◌, ◌+◌, ◌-◌, ◌≤◌, length, drop, option_map}
use Rattle.mk_recipe.specs.Report.{colon_at}
use Rattle.mk_recipe.proofs.report_line.colon_at.Given as goal

abbrev pub invariant-loop-at : goal.invariant-loop-at
invariant-loop-at l = record {
  within : l.at ≤ length l.line;
  found : option_map (λ n. n + l.at) (colon_at (drop l.at l.line)) ≡ colon_at l.line;
}

abbrev pub decreases-loop-at : goal.decreases-loop-at
decreases-loop-at l = length l.line - l.at
