use Rattle.std.proofs.Common.{sym, ◌∙◌}
use Rattle.std.specs.FinMap as map
use Rattle.mk_nodes.specs.Prerequisites.{inputs_of, is_node}
use Rattle.mk_rules.specs.Row.{named}
use Rattle.mk_rules.proofs.HiddenLemmas.{none_hidden}
use Rattle.mk_rules.proofs.recorded.add_listed.Goals as goal

pub returns-then-len-eq0-clause-hidden : goal.returns-then-len-eq0-clause-hidden
returns-then-len-eq0-clause-hidden g c = λ looks now.
    let rules = c.args.rules.now in
    none_hidden (is_node (inputs_of rules.lines.now (map.get rules.state.now) looks)) (named c.args.names.now c.args.notes.now.row) c.args.hidden _ (sym c.len.ensures ∙ c.if-len-eq0.true) c.none.ensures
