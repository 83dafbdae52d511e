use Rattle.std.proofs.Common.{List, subst, arith}
use Rattle.mk_recipe.specs.declared.line.Line.{Line}
use Rattle.mk_recipe.specs.declared.line_status.Outcome.TheVariants.{Done, Failed}
use Rattle.bd_lists.specs.declared.recipe.Variable.{Variable}
use Rattle.bd_lists.specs.Running.{RanTo, IsAnswer}
use Rattle.bd_lists.proofs.RunLemmas.{nothing_has_run, blank_passed, line_passed, line_stopped, all_passed}
use Rattle.bd_lists.proofs.board.clearance.Clearance.run_lines.Goals as goal

pub loop-line-init : goal.loop-line-init
loop-line-init g c = record {
  room = omega arith;
  run = nothing_has_run _ _ _ _;
}

pub loop-line-preserved-then-is_blank : goal.loop-line-preserved-then-is_blank
loop-line-preserved-then-is_blank g c = record {
  room = omega arith;
  run = blank_passed _ _ _ _ _ _ c.line-item.result c.loop-line.invariant.run (record { within = c.loop-line-test.true; is = c.line-item.is }) cc;
}

pub unwrap-requires : goal.unwrap-requires
unwrap-requires g c = c.push.ensures.succeeds (omega arith)

pub returns-then-not-passes : goal.returns-then-not-passes
returns-then-not-passes g c =
    let pushed = rw c.unwrap.ensures at c.push.ensures.items in
    let answer = subst (λ (env : List Variable). IsAnswer (g.E.Exec.answers c.args.exec.now env c.line-item.result) c.run_line-answer.result)
    c.deref.ensures.value c.run_line-answer.ensures.answer in
    let ran = line_stopped _ _ _ _ _ _ c.line-item.result c.run_line-answer.result c.loop-line.invariant.run
    (record { within = c.loop-line-test.true; is = c.line-item.is }) (cc) answer (λ passed. let is = c.passes.ensures.1 passed in cc) in
    record {
      ran = subst (λ (lines : List Line). RanTo (g.E.Exec.answers c.args.exec.now c.args.recipe.now.env.items) c.args.recipe.now.ignore lines
          c.args.ended.now.items c.push.new.self.items (Failed c.run_line-answer.result.status)) c.deref-line-items.ensures.value (rw pushed ran);
      status = c.run_line-answer.ensures.status;
    }

pub loop-line-preserved : goal.loop-line-preserved
loop-line-preserved g c =
    let pushed = rw c.unwrap.ensures at c.push.ensures.items in
    let len = rw c.unwrap.ensures at c.push.ensures.len in
    let answer = subst (λ (env : List Variable). IsAnswer (g.E.Exec.answers c.args.exec.now env c.line-item.result) c.run_line-answer.result)
    c.deref.ensures.value c.run_line-answer.ensures.answer in
    record {
      room = omega arith;
      run = rw pushed (line_passed _ _ _ _ _ _ c.line-item.result c.run_line-answer.result c.loop-line.invariant.run
          (record { within = c.loop-line-test.true; is = c.line-item.is }) (cc) answer (c.passes.ensures.0 cc));
    }

pub returns : goal.returns
returns g c = record {
  ran = subst (λ (lines : List Line). RanTo (g.E.Exec.answers c.args.exec.now c.args.recipe.now.env.items) c.args.recipe.now.ignore lines
      c.args.ended.now.items c.loop-line.ended.items Done) c.deref-line-items.ensures.value
      (all_passed _ _ _ _ _ _ c.loop-line.invariant.run c.loop-line-test.false);
  status = tt;
}
