use Rattle.std.proofs.Common.{subst}
use Rattle.st_records.specs.declared.version.Form.{Form}
use Rattle.mk_rule_lines.proofs.ResultLemmas.{if_ok, if_err}
use Rattle.dmk_reading.specs.Planned.{IsStateOn}
use Rattle.dmk_dry.proofs.PlanLemmas.{rules_fault, listed_so}
use Rattle.dmk_dry.proofs.planning.kept_graph.Goals as goal

pub returns-clause-graph : goal.returns-clause-graph
returns-clause-graph g c =
    let given = c.args.given in
    let found = subst (λ (f : Form). IsStateOn f c.args.keeping g.D.Disk.honest (g.D.Disk.seen c.args.disk.now) c.in_ok-state.state) c.kept_form-newest.ensures c.in_ok-state.ensures.found in
    if_ok c.graph_of.result _ _ (λ graph is. (c.in_ok-state.state, found, is))
    (listed_so given.profile given.definitions.now given.environment.now c.args.targets given.goes_on c.goes_without-without.result c.args.items.items
    c.in_ok-state.state (g.T.Tree.allows c.graph_of.new.tree) c.graph_of.result c.goes_without-without.ensures c.graph_of.ensures.graph c.graph_of.ensures.made)

pub returns-clause-fault : goal.returns-clause-fault
returns-clause-fault g c =
    let found = subst (λ (f : Form). IsStateOn f c.args.keeping g.D.Disk.honest (g.D.Disk.seen c.args.disk.now) c.in_ok-state.state) c.kept_form-newest.ensures c.in_ok-state.ensures.found in
    if_err c.graph_of.result _ _
    (λ f meets looks now.
    rules_fault c.args.given.profile c.args.given.definitions.now c.args.given.environment.now c.args.targets c.args.given.makes_all c.args.given.goes_on looks g.D.Disk.honest (g.D.Disk.seen c.args.disk.now) c.args.items.items
    c.args.keeping c.requires c.in_ok-state.state found (g.T.Tree.refuses c.graph_of.new.tree) (g.T.Tree.allows c.graph_of.new.tree) now f meets)
    c.graph_of.ensures.fault
