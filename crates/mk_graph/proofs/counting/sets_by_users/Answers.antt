use Rattle.std.proofs.lemmas.Result.{IfOk-weaker}
use Rattle.mk_graph.specs.Counted.{AreSets}
use Rattle.mk_graph.specs.Edges.{AreUsers}
use Rattle.mk_graph.proofs.SetLemmas.{sets_of_ascending, sets_of_users}
use Rattle.mk_graph.proofs.counting.sets_by_users.Goals as goal

pub returns-then-ascends : goal.returns-then-ascends
returns-then-ascends c =
    let once = sets_of_ascending c.args.users (c.ascends.ensures c.if-ascends.true) in
    IfOk-weaker c.reversed_into.result (AreUsers c.args.users) (AreSets c.args.rows)
    (λ edges are. sets_of_users c.args.rows c.args.users c.args.users edges c.requires.closed c.requires.users once are) c.reversed_into.ensures

pub returns : goal.returns
returns c =
    IfOk-weaker c.reversed.result (AreUsers c.in_ok-users.users) (AreSets c.args.rows)
    (λ edges are. sets_of_users c.args.rows c.args.users c.in_ok-users.users edges c.requires.closed c.requires.users c.in_ok-users.ensures are) c.reversed.ensures
