use Rattle.std.proofs.Common.{arith, ◌≡◌, ◌<◌, ℕ, List, true, length, subst}
use Rattle.std.specs.Prelude.{◌↔◌}
use Rattle.std.proofs.lemmas.Grind.{common_steps}
use Rattle.mk_rule_lines.proofs.ResultLemmas.{if_ok}
use Rattle.mk_graph.specs.Edges.{has}
use Rattle.mk_plan.specs.Nodes.{is_marked}
use Rattle.dmk_reading.specs.Lost.{StandsOn}
use Rattle.dmk_reading.proofs.LostLemmas.{none_lost, no_marks, nothing_in}
use Rattle.dmk_reading.proofs.lost.lost_nodes.Goals as goal

pub returns-then-is_empty : goal.returns-then-is_empty
returns-then-is_empty c = λ passes n inside. (
  λ marked. absurd (no_marks c.new.result.items n c.new.ensures.items marked),
  λ lost. absurd (none_lost c.args.graph.now (nothing_in c.args.graph.now.unmade.items (let ok = c.args.graph.now.unmade.ok in let e = c.if-is_empty.ensures in grind (arith, common_steps, ok, e))) n lost),
)

pub returns : goal.returns
returns c = λ passes.
    if_ok c.nodes_on.result _ _
    (λ marks are n inside.
    subst (λ (nodes : List ℕ). (is_marked marks.items n ≡ true) ↔ StandsOn c.args.graph.now (λ m. has nodes m ≡ true) n) c.deref.ensures.value (are n inside))
    (c.nodes_on.ensures.marks passes)
