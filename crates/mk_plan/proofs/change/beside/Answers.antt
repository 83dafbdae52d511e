use Rattle.std.proofs.Common.{◌≡◌, ◌∙◌, IfOk, ap, subst}
use Rattle.mk_plan.specs.Change.{beside}
use Rattle.mk_plan.proofs.ChangeLemmas.{beside_distinct}
use Rattle.mk_plan.proofs.change.beside.Goals as goal

pub returns : goal.returns
returns c =
    subst (λ names. IfOk c.not_in.result (λ left. left ≡ names))
    (ap (λ table. beside table c.args.names.now) c.in_ok-table.ensures ∙ beside_distinct c.args.others.now c.args.names.now) c.not_in.ensures
