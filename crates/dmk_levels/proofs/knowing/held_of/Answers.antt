use Rattle.std.proofs.Common.{false, [], ◌∷◌, ap, ◌∙◌, subst}
use Rattle.st_state.specs.State.{replay}
use Rattle.dmk_reading.specs.Planned.{IsGraphOf}
use Rattle.dmk_reading.proofs.PassingLemmas.{order_below}
use Rattle.mk_levels.specs.declared.level.Level.{Level}
use Rattle.mk_levels.specs.Picked.{ArePicked}
use Rattle.dmk_levels.proofs.KnowingLemmas.{offers_good, offers_stand}
use Rattle.dmk_levels.proofs.knowing.held_of.Goals as goal

pub picked-requires : goal.picked-requires
picked-requires g c =
    let (looks, may) = g.met.T.Tree.possible c.graph_asked.new.tree in
    let is = c.in_ok-graph.ensures.graph looks may in
    order_below is.inputs c.args.asked.now.options.now.targets c.in_ok-graph.graph is.is_graph

pub returns-clause-held : goal.returns-clause-held
returns-clause-held g c = λ looks may.
    let options = c.args.asked.now.options.now in
    let offers = c.args.offers.now in
    let level : Level = record { name = c.new-2.result; state = c.in_ok-known.known } in (
      c.in_ok-graph.graph,
      subst (λ m. IsGraphOf options.profile options.definitions.items c.args.asked.now.environment.now options.targets looks c.args.items.items m c.in_ok-graph.graph)
          (c.in_ok-state.ensures ∙ ap (λ m. replay m offers) c.in_ok-copy.ensures.equal) (c.in_ok-graph.ensures.graph looks may),
      (
        level,
        c.in_ok-known.ensures ∙ ap (λ m. replay m offers) c.new.ensures,
        subst (λ m. ArePicked m (level ∷ []) false c.in_ok-graph.graph c.in_ok-held.held.items) c.new-none.ensures c.in_ok-held.ensures.all,
      ),
    )

pub returns-clause-good : goal.returns-clause-good
returns-clause-good g c =
    let level : Level = record { name = c.new-2.result; state = c.in_ok-known.known } in
    offers_good c.new-none.result (level ∷ []) c.in_ok-held.held.items c.in_ok-held.ensures.offered

pub returns-clause-later : goal.returns-clause-later
returns-clause-later g c =
    let level : Level = record { name = c.new-2.result; state = c.in_ok-known.known } in
    offers_stand c.new-none.result (level ∷ []) c.in_ok-held.held.items c.in_ok-held.ensures.offered
