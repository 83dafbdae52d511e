use Rattle.std.proofs.Common.{◌≡◌, ◌∙◌, ap}
use Rattle.dmk_dry.specs.Faults.{IsPlanFault}
use Rattle.dmk_reading.specs.Keeping.{keeps}
use Rattle.dmk_dry.specs.Planned.{Tells}
use Rattle.dmk_reading.proofs.AllowedLemmas.{each_ok, each_err}
use Rattle.dmk_reading.proofs.PassingLemmas.{order_below, passes_each, passes_judged}
use Rattle.dmk_dry.proofs.PassingLemmas.{order_judged}
use Rattle.dmk_dry.proofs.PlanLemmas.{recipes_result, told_result}
use Rattle.dmk_dry.proofs.planning.plan_items.Goals as goal

pub kept_graph-requires : goal.kept_graph-requires
kept_graph-requires g c = c.keeps_state-keeping.ensures ∙ ap (keeps c.args.given.environment.now) c.deref.ensures.value

pub listed-requires-clause-plan : goal.listed-requires-clause-plan
listed-requires-clause-plan g c =
    let (state, found, is) = c.in_ok-graph.ensures.graph in
    let (looks, now) = g.met.T.Tree.possible c.kept_graph.new.tree in
    let by = (is looks now).is_graph in
    passes_judged c.args.given.makes_all c.in_ok-graph.graph c.judged_graph-judged.result c.judged_graph-judged.ensures
    (passes_each by.inputs c.args.targets c.in_ok-graph.graph by.is_graph)

pub listed-requires-clause-order : goal.listed-requires-clause-order
listed-requires-clause-order g c =
    let (state, found, is) = c.in_ok-graph.ensures.graph in
    let (looks, now) = g.met.T.Tree.possible c.kept_graph.new.tree in
    let by = is looks now in
    order_judged c.args.given.makes_all c.in_ok-graph.graph c.judged_graph-judged.result c.judged_graph-judged.ensures
    (order_below by.is_graph.inputs c.args.targets c.in_ok-graph.graph by.is_graph.is_graph)

pub returns-clause-tells : goal.returns-clause-tells
returns-clause-tells g c =
    let (state, found, is) = c.in_ok-graph.ensures.graph in
    let is_keeping : c.keeps_state-keeping.result ≡ keeps c.args.given.environment.now c.args.items.items =
    c.keeps_state-keeping.ensures ∙ ap (keeps c.args.given.environment.now) c.deref.ensures.value in
    let profile = c.args.given.profile in
    let definitions = c.args.given.definitions.now in
    let environment = c.args.given.environment.now in
    let seen = g.D.Disk.seen c.args.disk.now in
    each_ok c.listed.result (g.T.Tree.allows c.kept_graph.new.tree) (λ looks. Tells profile definitions environment c.args.targets c.args.given.makes_all c.args.given.goes_on looks g.D.Disk.honest seen c.args.items.items c.args.given.shows.telling c.args.given.shows.recipes)
    (λ looks now.
    told_result profile definitions environment c.args.targets c.args.given.makes_all c.args.given.goes_on looks g.D.Disk.honest seen c.args.items.items c.keeps_state-keeping.result is_keeping state found
    c.in_ok-graph.graph (is looks now) c.judged_graph-judged.result c.judged_graph-judged.ensures c.counts_records-counting.result c.counts_records-counting.ensures c.args.given.shows.telling c.args.given.shows.recipes c.listed.result c.listed.ensures.listing c.listed.ensures.dropped c.listed.ensures.unmade)

pub returns-clause-fault : goal.returns-clause-fault
returns-clause-fault g c =
    let (state, found, is) = c.in_ok-graph.ensures.graph in
    let is_keeping : c.keeps_state-keeping.result ≡ keeps c.args.given.environment.now c.args.items.items =
    c.keeps_state-keeping.ensures ∙ ap (keeps c.args.given.environment.now) c.deref.ensures.value in
    let profile = c.args.given.profile in
    let definitions = c.args.given.definitions.now in
    let environment = c.args.given.environment.now in
    let seen = g.D.Disk.seen c.args.disk.now in
    let refuses = g.T.Tree.refuses c.kept_graph.new.tree in
    each_err c.listed.result (g.T.Tree.allows c.kept_graph.new.tree) (λ looks. IsPlanFault profile definitions environment c.args.targets c.args.given.makes_all c.args.given.goes_on looks refuses g.D.Disk.honest seen c.args.items.items)
    (λ looks now.
    recipes_result profile definitions environment c.args.targets c.args.given.makes_all c.args.given.goes_on looks g.D.Disk.honest seen c.args.items.items c.keeps_state-keeping.result is_keeping state found
    c.in_ok-graph.graph (is looks now) c.judged_graph-judged.result c.judged_graph-judged.ensures c.counts_records-counting.result c.counts_records-counting.ensures refuses c.listed.result c.listed.ensures.fault)
