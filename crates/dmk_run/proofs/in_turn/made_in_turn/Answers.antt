use Rattle.std.proofs.Common.{inl, refl, rules, IfOk, arith}
use Rattle.mk_rule_lines.proofs.ResultLemmas.{if_ok}
use Rattle.dmk_parts.specs.Behind.{none_tried}
use Rattle.dmk_parts.specs.Parts.{GoesOn, EndsRun}
use Rattle.dmk_run.proofs.InTurnLemmas.{with_lost, next_made, none_yet, none_left_of, ended, leaves_both}
use Rattle.dmk_run.proofs.in_turn.made_in_turn.Goals.{else-loop-targets-test, then-loop-targets-test+then-not-goes_on}
use Rattle.dmk_run.proofs.in_turn.made_in_turn.Goals as goal

pub loop-targets-init : goal.loop-targets-init
loop-targets-init g c = record {
  status = omega arith;
  in_turn = none_yet _ c.args.options.now.goes_on c.args.disk c.nothing-tried.result c.nothing-tried.ensures;
  untouched = inl refl;
  let_go = λ none. none;
}

pub loop-targets-preserved : goal.loop-targets-preserved
loop-targets-preserved g c =
    let goes : IfOk c.loop-targets.found (GoesOn c.args.options.now.goes_on) = search rules in
    let own = with_lost _ c.args.options.now.goes_on c.targets-item.result (c.loop-targets.disk, c.loop-targets.tried)
    (c.made_part-ran.result.1, c.made_part-ran.new.tried) (c.lost_made-behind.result.1, c.lost_made-behind.new.tried)
    c.made_part-ran.result.0 c.lost_made-behind.result.0 c.made_part-ran.ensures.part c.lost_made-behind.ensures.behind in
    record {
      status = c.joined-found.ensures.status;
      in_turn = next_made _ c.args.options.now.goes_on c.args.parts.now c.loop-targets.targets-index c.targets-item.result (c.args.disk, none_tried)
          (c.loop-targets.disk, c.loop-targets.tried) (c.lost_made-behind.result.1, c.lost_made-behind.new.tried) c.loop-targets.found c.lost_made-behind.result.0 c.joined-found.result c.loop-targets-test.true c.targets-item.is
          c.joined-found.ensures.both c.loop-targets.invariant.in_turn goes own;
      untouched = leaves_both (λ source world. g.M.Includes.Includes.allows source world) (λ tree looks. g.M.Tree.Tree.allows tree looks) c.args.means.now.environment.now
          c.args.options.now c.args.disk c.loop-targets.disk c.lost_made-behind.result.1 c.loop-targets.invariant.untouched
          (leaves_both (λ source world. g.M.Includes.Includes.allows source world) (λ tree looks. g.M.Tree.Tree.allows tree looks) c.args.means.now.environment.now
          c.args.options.now c.loop-targets.disk c.made_part-ran.result.1 c.lost_made-behind.result.1 c.made_part-ran.ensures.untouched
          c.lost_made-behind.ensures.untouched);
      let_go = λ none. c.lost_made-behind.ensures.let_go (c.made_part-ran.ensures.let_go (c.loop-targets.invariant.let_go none));
    }

-- all parts are made, or one ends the run
pub returns-clause-in_turn : goal.returns-clause-in_turn
returns-clause-in_turn g c = if_ok c.loop-targets.found _ _ (λ s made. (c.loop-targets.tried, made)) (elim c.loop-targets-test.branch [
  | else-loop-targets-test w ↦
      none_left_of _ c.args.options.now.goes_on c.args.parts.now c.loop-targets.targets-index (c.args.disk, none_tried) (c.loop-targets.disk, c.loop-targets.tried)
      c.loop-targets.found w.loop-targets-test.false c.loop-targets.auto.targets-index-end c.loop-targets.invariant.in_turn
  | then-loop-targets-test+then-not-goes_on w ↦
      let ends : IfOk c.loop-targets.found (EndsRun c.args.options.now.goes_on) = search rules in
      ended _ c.args.options.now.goes_on c.args.parts.now c.loop-targets.targets-index (c.args.disk, none_tried) (c.loop-targets.disk, c.loop-targets.tried)
      c.loop-targets.found c.loop-targets.invariant.in_turn ends
])
