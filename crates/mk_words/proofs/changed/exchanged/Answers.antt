use Rattle.std.proofs.Common.{◌∙◌, ◌++◌, false, sym, ap, append_assoc}
use Rattle.mk_words.specs.Changed.{exchanged}
use Rattle.mk_words.proofs.ChangedLemmas.{exchanged-hit}
use Rattle.mk_words.proofs.changed.exchanged.Goals as goal

pub loop-byte-preserved-in-Some-behind_next : goal.loop-byte-preserved-in-Some-behind_next
loop-byte-preserved-in-Some-behind_next c =
    let from = c.args.from.now in
    let to = c.args.to.now in
    let behind = c.in-Some-behind_next.behind.now in
    let hit = c.in-Some-behind_next.ensures in
    ap (λ o. o ++ exchanged from to 0 false behind) c.in_ok-extend_from_slice-in-Some-behind_next.ensures.items
    ∙ append_assoc c.loop-byte.out.items to (exchanged from to 0 false behind)
    ∙ ap (λ t. c.loop-byte.out.items ++ t) (ap (λ t. to ++ exchanged from to 0 false t) hit.1 ∙ sym (exchanged-hit from to c.loop-byte.rest.now c.loop-byte.begins c.requires hit.0))
    ∙ c.loop-byte.invariant
