use Rattle.std.proofs.Common.{ℕ, List, sym, subst}
use Rattle.mk_rule_lines.proofs.ResultLemmas.{if_ok}
use Rattle.dmk_parts.specs.Behind.{AreCauses}
use Rattle.dmk_parts.proofs.clearing.moved_behind.Goals as goal

pub returns : goal.returns
returns c = λ passes.
    if_ok c.nodes_on.result _ _
    (λ marks are _. (c.deref.result.now, subst (λ (causes : List ℕ). AreCauses c.args.built.now c.args.counting c.args.graph.now causes) (sym c.deref.ensures.value) c.in_ok-causes.ensures, are))
    (c.nodes_on.ensures.marks passes)

pub returns-then-is_empty : goal.returns-then-is_empty
returns-then-is_empty c = λ passes some. absurd (some (c.is_empty.ensures.0 c.if-is_empty.true))
