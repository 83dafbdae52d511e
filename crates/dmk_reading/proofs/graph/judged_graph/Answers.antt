use Rattle.std.proofs.Common.{◌∙◌, sym, ap}
use Rattle.dmk_reading.specs.Planned.{judged_graph}
use Rattle.dmk_reading.proofs.GraphLemmas.{with_state}
use Rattle.dmk_reading.proofs.graph.judged_graph.Goals as goal

pub returns : goal.returns
returns c =
    with_state c.args.graph c.with_key.result _ _ _ _ _ _ _ _ _ _ _
    ∙ ap (λ s. record c.args.graph { state = s }) c.with_key.ensures ∙ ap (λ all. judged_graph all c.args.graph) (sym c.if-not-all.false)
