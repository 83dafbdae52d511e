use Rattle.std.proofs.Common.{true, sym, subst}
use Rattle.std.specs.FinMap as map
use Rattle.mk_rules.specs.Found.{IsFindingFault}
use Rattle.mk_rules.proofs.LookLemmas.{looked_once, asked_behind, asked_fewer}
use Rattle.mk_nodes.specs.Prerequisites.{inputs_of, prerequisites_of}
use Rattle.mk_sources.specs.Tree.{AskedOnce}
use Rattle.mk_nodes.proofs.OneNumberingLemmas.{distinct_names}
use Rattle.mk_rule_lines.proofs.ResultLemmas.{if_ok, if_err}
use Rattle.mk_rules.proofs.building.numbered_names.Goals as goal

pub returns-clause-found : goal.returns-clause-found
returns-clause-found g c =
    let ended = c.tree-1.given.1 (sym c.found_names.ensures.same) in
    if_ok c.found_names.result _ _ (λ n are looks now. are looks (subst (λ t. g.T.Tree.allows t looks) ended now)) c.found_names.ensures.found

pub returns-clause-fault : goal.returns-clause-fault
returns-clause-fault g c =
    let rules = c.args.rules in
    let ended = c.tree-1.given.1 (sym c.found_names.ensures.same) in
    if_err c.found_names.result _ _
    (λ f meets looks now.
    subst (λ t. IsFindingFault (inputs_of rules.lines.now (map.get rules.state.now) looks) (g.T.Tree.refuses t) c.args.goals.now c.args.limit f) (sym ended)
    (meets looks (subst (λ t. g.T.Tree.allows t looks) ended now)))
    c.found_names.ensures.fault

pub returns-clause-names : goal.returns-clause-names
returns-clause-names g c =
    let rules = c.args.rules in
    let some = g.met.T.Tree.possible c.found_names.new.finder.tree.now in
    if_ok c.found_names.result _ _
    (λ n are. distinct_names (prerequisites_of (inputs_of rules.lines.now (map.get rules.state.now) some.0)) c.args.goals.now n.names (are some.0 some.1).names_are)
    c.found_names.ensures.found

pub returns-clause-narrows : goal.returns-clause-narrows
returns-clause-narrows g c = λ looks now.
    let ended = c.tree-1.given.1 (sym c.found_names.ensures.same) in
    c.in_ok-begin.ensures.grows looks (c.found_names.ensures.looks.narrows looks (subst (λ t. g.T.Tree.allows t looks) ended now))

pub returns-clause-asked : goal.returns-clause-asked
returns-clause-asked g c =
    let ended = c.tree-1.given.1 (sym c.found_names.ensures.same) in
    asked_behind (λ _. true) _ _ _ c.in_ok-begin.ensures.asked
    (subst (λ t. AskedOnce (g.T.Tree.asked c.begin.new.self) (λ _. true) (g.T.Tree.asked t)) (sym ended) (looked_once _ _ c.found_names.ensures.looks.once))

pub returns-in_err-begin-clause-asked : goal.returns-in_err-begin-clause-asked
returns-in_err-begin-clause-asked g c = asked_fewer (λ _. true) _ _ c.in_err-begin.ensures.asked
