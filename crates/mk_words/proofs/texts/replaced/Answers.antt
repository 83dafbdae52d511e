use Rattle.std.proofs.Common.{◌∙◌, ◌++◌, sym, ap, append_assoc}
use Rattle.mk_words.specs.Texts.{replaced}
use Rattle.mk_words.proofs.TextLemmas.{replaced-hit}
use Rattle.mk_words.proofs.texts.replaced.Goals as goal

pub loop-byte-preserved-in-Some-strip_prefix : goal.loop-byte-preserved-in-Some-strip_prefix
loop-byte-preserved-in-Some-strip_prefix c =
    let from = c.args.from.now in
    let to = c.args.to.now in
    let behind = c.in-Some-strip_prefix.behind.now in
    let hit = c.in-Some-strip_prefix.ensures.cases in
    ap (λ o. o ++ replaced from to 0 behind) c.in_ok-extend_from_slice-in-Some-strip_prefix.ensures.items
    ∙ append_assoc c.loop-byte.out.items to (replaced from to 0 behind)
    ∙ ap (λ t. c.loop-byte.out.items ++ t) (ap (λ t. to ++ replaced from to 0 t) hit.1 ∙ sym (replaced-hit from to c.loop-byte.rest.now c.requires hit.0))
    ∙ c.loop-byte.invariant
