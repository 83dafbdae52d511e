use Rattle.std.proofs.Common.{length, ap}
use Rattle.std.specs.Option.{option_copied}
use Rattle.std.specs.FinMap as map
use Rattle.mk_nodes.specs.Prerequisites.{inputs_of, is_node, hidden_in}
use Rattle.mk_rules.specs.Row.{named}
use Rattle.mk_rules.proofs.HiddenLemmas.{none_hidden}
use Rattle.mk_rules.proofs.recorded.add_recorded.Goals as goal

pub returns-in-None-clause-hidden : goal.returns-in-None-clause-hidden
returns-in-None-clause-hidden g c = λ looks now.
    let rules = c.args.rules.now in
    none_hidden (is_node (inputs_of rules.lines.now (map.get rules.state.now) looks)) (named c.args.names.now c.args.notes.now.row) (hidden_in (option_copied c.args.recorded)) _
    (ap (λ o. length (hidden_in (option_copied o))) c.in-None.is) c.none.ensures
