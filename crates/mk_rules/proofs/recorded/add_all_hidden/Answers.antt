use Rattle.std.proofs.Common.{◌∙◌, ℕ, List, sym, subst}
use Rattle.std.specs.FinMap as map
use Rattle.mk_nodes.specs.Hidden.{HasHidden}
use Rattle.mk_rules.specs.NodeNotes.{AreKnownNodes}
use Rattle.mk_nodes.specs.Prerequisites.{inputs_of, is_node}
use Rattle.mk_rules.specs.Row.{named, IsRow}
use Rattle.mk_rules.proofs.recorded.add_all_hidden.Goals as goal

pub add_hidden-requires-clause-noted : goal.add_hidden-requires-clause-noted
add_hidden-requires-clause-noted g c = λ looks now.
    let rules = c.args.rules.now in
    let p = is_node (inputs_of rules.lines.now (map.get rules.state.now) looks) in
    subst (AreKnownNodes p c.args.names.now) (sym c.take_row.ensures.marks) (c.requires.noted looks now)

pub add_hidden-requires-clause-row : goal.add_hidden-requires-clause-row
add_hidden-requires-clause-row g c =
    let nodes = c.new-mentioned.ensures.nodes ∙ c.take_row.ensures.row in
    (c.requires.row.0, subst (IsRow c.requires.row.0 c.args.names.now) (sym nodes) c.requires.row.1)

pub returns-clause-row : goal.returns-clause-row
returns-clause-row g c = λ start row.
    let names = c.args.names.now in
    let nodes = c.new-mentioned.ensures.nodes ∙ c.take_row.ensures.row in
    c.in_ok-add_hidden.ensures.row start (subst (IsRow start names) (sym nodes) row)

pub returns-clause-hidden : goal.returns-clause-hidden
returns-clause-hidden g c = λ looks now.
    let rules = c.args.rules.now in
    let names = c.args.names.now in
    let p = is_node (inputs_of rules.lines.now (map.get rules.state.now) looks) in
    let m = c.add_hidden.new.mentioned in
    subst (λ (ns : List ℕ). HasHidden p (named names ns) c.args.hidden.now (named c.add_hidden.new.names m.nodes) m.hidden)
    (c.new-mentioned.ensures.nodes ∙ c.take_row.ensures.row) (c.in_ok-add_hidden.ensures.hidden looks now)
