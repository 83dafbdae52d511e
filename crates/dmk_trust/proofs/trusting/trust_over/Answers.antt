use Rattle.std.proofs.Common.{◌∙◌, refl, sym, subst}
use Rattle.std.specs.FinMap as map
use Rattle.st_disk.specs.Moments.{now}
use Rattle.st_disk.proofs.MomentLaws.{started}
use Rattle.st_recovery.proofs.StoredLemmas.{all_recover}
use Rattle.dmk_reading.specs.Planned.{IsWholeGraphOf}
use Rattle.dmk_reading.proofs.PassingLemmas.{order_below}
use Rattle.dmk_trust.proofs.TrustingLemmas.{as_whole, of_taken, over_graph, without_calls}
use Rattle.dmk_trust.proofs.trusting.trust_over.Goals as goal

-- something is known: no call of the device
pub returns-then-knows_any-clause-any_moment : goal.returns-then-knows_any-clause-any_moment
returns-then-knows_any-clause-any_moment g c = λ honest looks may.
    let store = c.args.store.now in
    let moments = g.D.Disk.moments store.log.disk in
    let wanted = IsWholeGraphOf c.args.options.now.profile c.args.options.now.definitions.items c.args.environment.now c.args.options.now.targets looks c.args.items.items map.empty in
    without_calls store.newest wanted store.state (started moments (all_recover store.log.side (now moments) (store.stored honest c.requires)))

pub returns-then-knows_any-clause-recovers : goal.returns-then-knows_any-clause-recovers
returns-then-knows_any-clause-recovers g c = λ honest.
    let store = c.args.store.now in
    all_recover store.log.side (now (g.D.Disk.moments store.log.disk)) (store.stored honest c.requires)

pub returns-then-knows_any-clause-left : goal.returns-then-knows_any-clause-left
returns-then-knows_any-clause-left g c = λ looks may.
    (λ none. c.knows_any.ensures.yes c.if-knows_any.true (c.state.ensures ∙ none), refl)

-- the graph has a fault: no call of the device
pub returns-in_err-graph-clause-any_moment : goal.returns-in_err-graph-clause-any_moment
returns-in_err-graph-clause-any_moment g c = λ honest looks may.
    let store = c.args.store.now in
    let moments = g.D.Disk.moments store.log.disk in
    let wanted = IsWholeGraphOf c.args.options.now.profile c.args.options.now.definitions.items c.args.environment.now c.args.options.now.targets looks c.args.items.items map.empty in
    without_calls store.newest wanted store.state (started moments (all_recover store.log.side (now moments) (store.stored honest c.requires)))

pub record_taken-taken-requires-clause-order : goal.record_taken-taken-requires-clause-order
record_taken-taken-requires-clause-order g c =
    let (looks, may) = g.met.T.Tree.possible c.graph_asked.new.tree in
    let is = c.in_ok-graph.ensures.graph looks may in
    order_below is.inputs c.args.options.now.targets c.in_ok-graph.graph is.is_graph

pub returns-in_err-count-clause-any_moment : goal.returns-in_err-count-clause-any_moment
returns-in_err-count-clause-any_moment g c = λ honest looks may.
    let store = c.args.store.now in
    let options = c.args.options.now in
    let graph = c.in_ok-graph.graph in
    let none = sym c.state.ensures ∙ c.knows_any.ensures.no c.if-knows_any.false in
    over_graph store.newest (IsWholeGraphOf options.profile options.definitions.items c.args.environment.now options.targets looks c.args.items.items map.empty)
    graph store.state none
    (subst (λ m. IsWholeGraphOf options.profile options.definitions.items c.args.environment.now options.targets looks c.args.items.items m graph)
    (c.state-2.ensures ∙ none) (as_whole (c.in_ok-graph.ensures.graph looks may) c.in_ok-graph.ensures.made))
    (c.record_taken-taken.ensures.any_moment honest)

pub returns-clause-any_moment : goal.returns-clause-any_moment
returns-clause-any_moment g c = λ honest looks may.
    let store = c.args.store.now in
    let options = c.args.options.now in
    let graph = c.in_ok-graph.graph in
    let none = sym c.state.ensures ∙ c.knows_any.ensures.no c.if-knows_any.false in
    over_graph store.newest (IsWholeGraphOf options.profile options.definitions.items c.args.environment.now options.targets looks c.args.items.items map.empty)
    graph store.state none
    (subst (λ m. IsWholeGraphOf options.profile options.definitions.items c.args.environment.now options.targets looks c.args.items.items m graph)
    (c.state-2.ensures ∙ none) (as_whole (c.in_ok-graph.ensures.graph looks may) c.in_ok-graph.ensures.made))
    (c.record_taken-taken.ensures.any_moment honest)

pub returns-clause-left : goal.returns-clause-left
returns-clause-left g c = λ looks may.
    let store = c.args.store.now in
    let options = c.args.options.now in
    let graph = c.in_ok-graph.graph in
    let none = sym c.state.ensures ∙ c.knows_any.ensures.no c.if-knows_any.false in
    let (taken, are, is, counted) = c.in_ok-count.ensures.taken in (
      none,
      of_taken store.newest (IsWholeGraphOf options.profile options.definitions.items c.args.environment.now options.targets looks c.args.items.items map.empty)
          graph store.state c.record_taken-taken.new.store.state taken c.in_ok-count.count none
          (subst (λ m. IsWholeGraphOf options.profile options.definitions.items c.args.environment.now options.targets looks c.args.items.items m graph)
          (c.state-2.ensures ∙ none) (as_whole (c.in_ok-graph.ensures.graph looks may) c.in_ok-graph.ensures.made))
          are is counted,
    )
