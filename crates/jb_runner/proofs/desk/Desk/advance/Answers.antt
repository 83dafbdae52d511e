use Rattle.jb_runner.proofs.RunningLemmas.{all_handed}
use Rattle.jb_runner.proofs.desk.Desk.advance.Goals as goal

pub returns : goal.returns
returns g c = all_handed _ c.args.node c.args.receipt _ c.advance.result c.advance.ensures.ok
