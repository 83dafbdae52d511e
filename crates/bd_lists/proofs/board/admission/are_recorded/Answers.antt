use Rattle.std.proofs.Common.{arith}
use Rattle.std.proofs.lemmas.Bool.Decides.{nat_tests}
use Rattle.bd_lists.proofs.KeptLemmas.{none_kept, line_left_out, line_kept, line_missing, all_kept, none_behind}
use Rattle.bd_lists.proofs.board.admission.are_recorded.Goals as goal

pub loop-line-init : goal.loop-line-init
loop-line-init c = record { kept = none_kept _ _; below = omega arith }

pub loop-line-preserved-then-not-is_recorded : goal.loop-line-preserved-then-not-is_recorded
loop-line-preserved-then-not-is_recorded c = record {
  kept = line_left_out _ _ _ _ c.line-item.result c.loop-line.invariant.kept (record { within = c.loop-line-test.true; is = c.line-item.is })
      (λ is. let was = c.is_recorded.ensures.1 is in cc);
  below = omega arith;
}

pub returns-then-not-is_at : goal.returns-then-not-is_at
returns-then-not-is_at c = (
  λ h. absurd (cc),
  λ h. absurd (line_missing _ _ _ _ c.line-item.result c.loop-line.invariant.kept
      (record { within = c.loop-line-test.true; is = c.line-item.is }) (c.is_recorded.ensures.0 cc)
      (λ here. let is = c.is_at.ensures.1 (cc) in cc) h),
)

pub overflow_add-count : goal.overflow_add-count
overflow_add-count c = omega arith

pub loop-line-preserved : goal.loop-line-preserved
loop-line-preserved c = record {
  kept = line_kept _ _ _ _ c.line-item.result c.loop-line.invariant.kept (record { within = c.loop-line-test.true; is = c.line-item.is })
      (c.is_recorded.ensures.0 cc) (let there = c.is_at.ensures.0 c.if-not-is_at.false in cc);
  below = omega arith;
}

pub returns : goal.returns
returns c = (
  λ same. all_kept _ _ _ _ c.loop-line.invariant.kept c.loop-line-test.false (grind (arith, nat_tests)),
  λ h. let same = none_behind _ _ _ _ c.loop-line.invariant.kept c.loop-line-test.false h in grind (arith, nat_tests),
)
