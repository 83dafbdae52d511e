use Rattle.std.proofs.Common.{List, ℕ, Some, length, subst, sym}
use Rattle.bl_log.specs.Reached.{IsLast}
use Rattle.bl_log.proofs.CriticalLemmas.{IsTraced, traced_more, traced_path}
use Rattle.bl_log.proofs.critical.path_to.Goals as goal

pub loop-before-preserved : goal.loop-before-preserved
loop-before-preserved c =
    let spans = c.args.spans.now in
    let rows = c.args.prerequisites.now in
    let sums = c.args.reached.now in
    let first = c.loop-before.first in
    let before = c.in-Some.before in
    let is = subst (λ (named : List ℕ). IsLast spans named sums first (length named) (Some before)) c.row_of.ensures c.in-Some.ensures in
    subst (λ (path : List ℕ). IsTraced spans rows sums path c.args.last before) (sym c.in_ok-push-2.ensures.items)
    (traced_more spans rows sums c.loop-before.path.items c.args.last first before c.requires.reached c.loop-before.invariant is)

pub returns-clause-path : goal.returns-clause-path
returns-clause-path c =
    traced_path c.args.spans.now c.args.prerequisites.now c.args.reached.now c.loop-before.path.items c.args.last c.loop-before.first c.loop-before.invariant
