use Rattle.std.proofs.Common.{◌∙◌, ℕ, List, ap}
use Rattle.mk_graph.specs.Edges.{has}
use Rattle.mk_rule_lines.proofs.ResultLemmas.{if_ok}
use Rattle.dmk_parts.proofs.BehindLemmas.{stand_on_failed}
use Rattle.dmk_parts.proofs.clearing.unmade_behind.Goals as goal

pub returns : goal.returns
returns c = λ passes.
    let graph = c.args.graph.now in
    if_ok c.nodes_on.result _ _
    (λ marks are n inside.
    let stand = stand_on_failed graph c.deref.result.now c.args.failed.now
    (λ m within. ap (λ (numbers : List ℕ). has numbers m) c.deref.ensures.value ∙ c.in_ok-numbers.ensures m within) n inside in
    (λ marked. stand.0 ((are n inside).0 marked), λ on. (are n inside).1 (stand.1 on)))
    (c.nodes_on.ensures.marks passes)
