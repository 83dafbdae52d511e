use Rattle.std.proofs.Common.{Bool, Vec, Global, ap, subst, ◌∙◌}
use Rattle.std.specs.Prelude.{unwrap_or}
use Rattle.bd_lists.specs.declared.recipe.Variable.{Variable}
use Rattle.dmk_reading.specs.Planned.{IsGraphOf, judged_graph}
use Rattle.dmk_reading.proofs.PassingLemmas.{passes_each, passes_judged}
use Rattle.mk_nodes.specs.declared.graph.Graph.{Graph as MadeGraph}
use Rattle.dmk_parts.specs.Behind.{IsJudgedBehind, none_tried}
use Rattle.dmk_parts.proofs.PlanningLemmas.{recorded_so, unmade_so}
use Rattle.dmk_parts.proofs.planning.planned.Goals as goal

pub returns-in-Ok-ready-clause-graph : goal.returns-in-Ok-ready-clause-graph
returns-in-Ok-ready-clause-graph g c = λ looks may.
    let made = c.in-Ok-found.graph in
    let is_graph = subst (λ d. IsGraphOf c.args.goals.profile d c.args.environment.now c.args.goals.targets looks c.args.items.items c.args.state made)
    (c.deref.ensures.value ∙ ap (λ (v : Vec Variable Global). v.items) c.in-Ok.ensures.definitions) (c.in-Ok-found.ensures.graph looks may) in
    let passes = passes_judged c.args.wishes.now.makes_all made c.judged_graph-graph.result c.judged_graph-graph.ensures
    (passes_each is_graph.inputs c.args.goals.targets made is_graph.is_graph) in (
      made,
      is_graph,
      λ stays. unmade_so c.args.wishes.now.makes_all made c.judged_graph-graph.result c.judged_graph-graph.ensures (c.in-Ok-ready.ensures.made stays),
      subst (λ (counting : Bool). IsJudgedBehind (unwrap_or c.args.goals.behind none_tried) counting (judged_graph c.args.wishes.now.makes_all made) c.in-Ok-ready.graph) c.in-Ok.ensures.records
          (subst (λ judged. IsJudgedBehind (unwrap_or c.args.goals.behind none_tried) c.in-Ok.made.1.counts_records judged c.in-Ok-ready.graph) c.judged_graph-graph.ensures
          (c.in-Ok-ready.ensures.judged passes)),
    )

pub returns-in-Ok-ready-clause-state : goal.returns-in-Ok-ready-clause-state
returns-in-Ok-ready-clause-state g c =
    recorded_so c.args.wishes.now.makes_all c.in-Ok-found.graph c.in-Ok-ready.graph c.in-Ok.made.0 c.args.state
    (c.in-Ok-ready.ensures.state ∙ ap (λ (graph : MadeGraph). graph.state) c.judged_graph-graph.ensures) c.in-Ok.ensures.forgotten c.in-Ok.ensures.none
    c.in-Ok-found.ensures.state
