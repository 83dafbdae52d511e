use Rattle.std.specs.Prelude.{is_some}
use Rattle.std.specs.FinMap as map
use Rattle.mk_nodes.specs.Prerequisites.{inputs_of, is_node}
use Rattle.mk_rules.proofs.HiddenLemmas.{takes_same}
use Rattle.mk_rules.proofs.hidden.take_hidden.Goals as goal

pub returns-clause-row : goal.returns-clause-row
returns-clause-row g c = (c.in_ok-add_hidden.ensures c.args.names.now c.requires.row c.in_ok-number.ensures.number).0

pub returns-clause-taken : goal.returns-clause-taken
returns-clause-taken g c = λ looks now.
    let rules = c.args.rules.now in
    let p = is_node (inputs_of rules.lines.now (map.get rules.state.now) looks) in
    takes_same p (λ _. is_some c.in_ok-number.number) c.args.name.now _ _ _ _ _ _ (c.in_ok-number.ensures.node looks now)
    (c.in_ok-add_hidden.ensures c.args.names.now c.requires.row c.in_ok-number.ensures.number).1
