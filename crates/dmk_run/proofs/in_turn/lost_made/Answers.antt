use Rattle.std.proofs.Common.{◌≢◌, [], rules, IfOk}
use Rattle.dmk_parts.specs.Parts.{GoesOn}
use Rattle.dmk_run.proofs.InTurnLemmas.{as_it_is, made_behind}
use Rattle.dmk_run.proofs.in_turn.lost_made.Goals as goal

-- nothing is made
pub returns-then-is_empty-clause-behind : goal.returns-then-is_empty-clause-behind
returns-then-is_empty-clause-behind g c = as_it_is _ c.args.options.now.goes_on (c.args.ran.1, c.args.tried.now) c.args.ran.0

pub returns-then-is_empty-2-clause-behind : goal.returns-then-is_empty-2-clause-behind
returns-then-is_empty-2-clause-behind g c = as_it_is _ c.args.options.now.goes_on (c.args.ran.1, c.args.tried.now) c.args.ran.0

-- what is lost is
pub returns-clause-behind : goal.returns-clause-behind
returns-clause-behind g c =
    let some : c.in-Ok.lost ≢ [] = search rules in
    let goes : IfOk c.args.ran.0 (GoesOn c.args.options.now.goes_on) = search rules in
    made_behind _ c.args.options.now.goes_on c.in-Ok.lost (c.args.ran.1, c.args.tried.now) (c.made_part-again.result.1, c.made_part-again.new.tried) c.args.ran.0 c.made_part-again.result.0 c.joined.result some
    c.joined.ensures.both goes c.made_part-again.ensures.part
