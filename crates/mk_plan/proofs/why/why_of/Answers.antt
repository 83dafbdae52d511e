use Rattle.mk_plan.proofs.PassingLemmas.{judged_up_to_date}
use Rattle.mk_plan.proofs.why.why_of.Goals as goal

pub returns-in-UpToDate : goal.returns-in-UpToDate
returns-in-UpToDate c =
    judged_up_to_date c.args.keeping c.args.graph.now c.args.node c.args.target.now _ c.entry_of.ensures c.judge.result c.judge.ensures c.in-UpToDate.is
