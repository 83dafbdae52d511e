use Rattle.std.proofs.Common.{◌≡◌, ◌<◌, ℕ, List, Bool, true, length, sym, subst}
use Rattle.std.specs.Prelude.{◌≢◌, [], ◌↔◌}
use Rattle.mk_graph.specs.Edges.{has}
use Rattle.mk_plan.specs.Nodes.{is_marked}
use Rattle.mk_rule_lines.proofs.ResultLemmas.{if_ok}
use Rattle.dmk_reading.specs.Lost.{StandsOn}
use Rattle.dmk_parts.specs.Behind.{StandsOnFailed, AreCauses}
use Rattle.dmk_parts.proofs.BehindLemmas.{marked_behind}
use Rattle.dmk_parts.proofs.clearing.marks_behind.Goals as goal

pub returns-clause-marks : goal.returns-clause-marks
returns-clause-marks c = λ passes.
    let graph = c.args.graph.now in
    let before = c.args.before.now in
    let stands = subst (λ (marks : List Bool). (n : ℕ) → n < length graph.nodes.items → (is_marked marks n ≡ true) ↔ StandsOnFailed before.failed graph n)
    (sym c.deref.ensures.value) (c.in_ok-unmade.ensures passes) in
    let caused = subst (λ (marks : List Bool). before.filed ≢ [] → (causes : List ℕ) × AreCauses c.in_ok-built.built c.args.counting graph causes
    × ((n : ℕ) → n < length graph.nodes.items → (is_marked marks n ≡ true) ↔ StandsOn graph (λ m. has causes m ≡ true) n))
    (sym c.deref-2.ensures.value) (c.in_ok-moved.ensures passes) in
    if_ok c.marks_of.result _ _
    (λ marks are. marked_behind before c.args.counting graph c.in_ok-built.built c.in_ok-filed.filed c.deref.result.now c.deref-2.result.now
    c.in_ok-built.ensures c.in_ok-filed.ensures stands marks.items caused are)
    c.marks_of.ensures.marks
