use Rattle.std.proofs.Common.{subst}
use Rattle.dmk_reading.specs.Planned.{IsGraphOf}
use Rattle.dmk_reading.proofs.PassingLemmas.{order_below}
use Rattle.dmk_levels.proofs.knowing.offers_of.Goals as goal

pub picked-requires : goal.picked-requires
picked-requires g c =
    let (looks, may) = g.met.T.Tree.possible c.graph_asked.new.tree in
    let is = c.in_ok-graph.ensures.graph looks may in
    order_below is.inputs c.args.asked.now.options.now.targets c.in_ok-graph.graph is.is_graph

pub returns-clause-offers : goal.returns-clause-offers
returns-clause-offers g c = λ looks may.
    let options = c.args.asked.now.options.now in (
      c.in_ok-graph.graph,
      subst (λ m. IsGraphOf options.profile options.definitions.items c.args.asked.now.environment.now options.targets looks c.args.items.items m c.in_ok-graph.graph)
          c.in_ok-copy.ensures.equal (c.in_ok-graph.ensures.graph looks may),
      c.in_ok-offers.ensures.all,
    )
