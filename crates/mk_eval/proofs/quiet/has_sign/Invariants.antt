use Rattle.std.proofs.Common.{◌≡◌, ◌-◌, ◌≤◌, ◌||◌, length, drop, get_or}
use Rattle.mk_eval.specs.Quiet.{has_sign_behind}
use Rattle.mk_eval.proofs.quiet.has_sign.Given as goal

abbrev pub invariant-loop-at : goal.invariant-loop-at
invariant-loop-at l = record {
  some : 1 ≤ l.at;
  within : l.at ≤ length l.text;
  seen : (l.has_one || has_sign_behind (get_or l.text (l.at - 1) 0) (drop l.at l.text)) ≡ has_sign_behind 0 l.text;
}

abbrev pub decreases-loop-at : goal.decreases-loop-at
decreases-loop-at l = length l.text - l.at
