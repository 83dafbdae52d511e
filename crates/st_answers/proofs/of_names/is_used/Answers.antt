use Rattle.st_answers.proofs.UserLemmas.{any_here, none_here}
use Rattle.st_answers.proofs.of_names.is_used.Goals as goal

pub returns-then-stands_on : goal.returns-then-stands_on
returns-then-stands_on c =
    any_here c.args.name.now c.args.named.now c.loop-place.place (c.at.result.0.now, c.at.result.1.now) c.at.ensures c.if-stands_on.ensures c.loop-place.invariant

pub loop-place-preserved : goal.loop-place-preserved
loop-place-preserved c =
    none_here c.args.name.now c.args.named.now c.loop-place.place (c.at.result.0.now, c.at.result.1.now) c.at.ensures c.if-stands_on.ensures c.loop-place.invariant
