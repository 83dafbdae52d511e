use Rattle.std.proofs.Common.{[], ◌∷◌, sym}
use Rattle.mk_macros.specs.Ranks.{defined_by}
use Rattle.mk_eval.proofs.definition.add_item.Goals as goal

pub returns-then-gives_itself-clause-added : goal.returns-then-gives_itself-clause-added
returns-then-gives_itself-clause-added g c =
    let itself = c.gives_itself.ensures c.if-gives_itself.true in
    let given = defined_by c.args.macros.now in
    (c.args.item ∷ [], c.in_ok-push-2.ensures.items, sym (itself.0 given), λ world allowed. itself.1 world given)
