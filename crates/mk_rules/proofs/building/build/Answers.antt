use Rattle.std.proofs.Common.{true, ℕ, List, Option}
use Rattle.std.specs.FinMap as map
use Rattle.mk_macros.specs.Ranks.{defined_by}
use Rattle.mk_rule_lines.specs.declared.fault.RuleFault.{RuleFault}
use Rattle.mk_rules.specs.Faults.{IsRuleFault}
use Rattle.mk_rules.proofs.LookLemmas.{asked_none}
use Rattle.mk_rules.proofs.BuildLemmas.{built, graph_refused, makefile_refused, names_refused}
use Rattle.mk_rule_lines.proofs.LineLemmas.{handed_on}
use Rattle.mk_rule_lines.proofs.ResultLemmas.{if_ok, if_err}
use Rattle.mk_nodes.specs.declared.file_look.FileLook.{FileLook}
use Rattle.mk_rules.proofs.building.build.Goals as goal

pub returns-clause-graph : goal.returns-clause-graph
returns-clause-graph g c =
    if_ok c.graph_of.result _ _
    (λ graph is looks now.
    built (defined_by c.args.macros) c.args.items.items looks (map.get c.args.state) c.args.goals
    c.in_ok-makefile.makefile.lines.items c.in_ok-makefile.ensures.lines c.in_ok-numbered.numbered (c.in_ok-numbered.ensures.found looks now) graph is)
    c.graph_of.ensures.graph

pub returns-clause-fault : goal.returns-clause-fault
returns-clause-fault g c =
    if_err c.graph_of.result _ _
    (λ f meets looks now.
    graph_refused (defined_by c.args.macros) c.args.items.items looks (map.get c.args.state) c.args.goals
    c.in_ok-makefile.makefile.lines.items c.in_ok-makefile.ensures.lines c.in_ok-numbered.numbered (c.in_ok-numbered.ensures.found looks now)
    (g.T.Tree.refuses c.reached.new.tree) c.args.limit f meets)
    c.graph_of.ensures.fault

pub returns-in_err-makefile-clause-fault : goal.returns-in_err-makefile-clause-fault
returns-in_err-makefile-clause-fault g c =
    let given = defined_by c.args.macros in
    let items = c.args.items.items in
    let entries = map.get c.args.state in
    let refuses = g.T.Tree.refuses c.args.tree.now in
    let f = c.in_err-makefile.field-0.0 in
    handed_on _
    (λ (e : RuleFault). (looks : List ℕ → Option FileLook) → g.T.Tree.allows c.args.tree.now looks → IsRuleFault given items looks entries refuses c.args.goals c.args.limit e)
    f (c.from_residual.ensures).1
    (λ looks now. makefile_refused given items looks entries c.args.goals refuses c.args.limit f c.in_err-makefile.ensures.fault)

pub returns-in_err-numbered-clause-fault : goal.returns-in_err-numbered-clause-fault
returns-in_err-numbered-clause-fault g c =
    let given = defined_by c.args.macros in
    let items = c.args.items.items in
    let entries = map.get c.args.state in
    let refuses = g.T.Tree.refuses c.reached.new.tree in
    let f = c.in_err-numbered.field-0.0 in
    handed_on _
    (λ (e : RuleFault). (looks : List ℕ → Option FileLook) → g.T.Tree.allows c.reached.new.tree looks → IsRuleFault given items looks entries refuses c.args.goals c.args.limit e)
    f (c.from_residual-in_err-numbered.ensures).1
    (λ looks now. names_refused given items looks entries c.args.goals c.in_ok-makefile.makefile.lines.items c.in_ok-makefile.ensures.lines refuses c.args.limit f
    (c.in_err-numbered.ensures.fault looks now))

pub returns-in_err-makefile-clause-asked : goal.returns-in_err-makefile-clause-asked
returns-in_err-makefile-clause-asked g c = asked_none (λ _. true) (g.T.Tree.asked c.args.tree.now)
