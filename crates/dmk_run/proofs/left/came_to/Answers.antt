use Rattle.mk_rule_lines.proofs.ResultLemmas.{if_ok}
use Rattle.dmk_parts.specs.Tried.{AreTried, tried_in}
use Rattle.dmk_run.proofs.DriverLemmas.{at_ok}
use Rattle.dmk_run.proofs.left.came_to.Goals as goal

pub returns-in-Ok-clause-status : goal.returns-in-Ok-clause-status
returns-in-Ok-clause-status c =
    if_ok c.reported.result _ _
    (λ s (report, is, same). (
      report,
      is,
      same,
      at_ok (λ r. AreTried c.args.graph.now r.ends.items (tried_in c.in-Ok.left)) c.args.found report is c.in-Ok.ensures,
    ))
    c.reported.ensures.status
