use Rattle.std.proofs.Common.{to_z-of_z, ◌++◌, ◌∙◌, ap, sym, append-nil}
use Rattle.st_marks.proofs.ToldLemmas.{no_sign, minus}
use Rattle.st_marks.proofs.told.put_sign.Goals as goal

pub returns-then-time-ge0-clause-items : goal.returns-then-time-ge0-clause-items
returns-then-time-ge0-clause-items c =
    let back = to_z-of_z c.ranges.time in
    sym (ap (λ t. c.args.text.now.items ++ t) (no_sign c.args.time (rw back at c.if-time-ge0.true)) ∙ append-nil c.args.text.now.items)

pub returns-clause-items : goal.returns-clause-items
returns-clause-items c =
    let back = to_z-of_z c.ranges.time in
    c.put.ensures.items ∙ ap (λ t. c.args.text.now.items ++ t) (sym (minus c.args.time (rw back at c.if-time-ge0.false)))
