use Rattle.std.proofs.Common.{◌≡◌, ◌+◌, [], ◌∷◌, ◌++◌, length, take, replicate, None, sym, ap, ◌∙◌, arith}
use Rattle.std.proofs.lemmas.List.{take_all, take_more, length-take}
use Rattle.jb_closing.proofs.LastLemmas.{places_at_first}
use Rattle.jb_closing.proofs.last.last_places.Goals as goal

pub loop-place-init : goal.loop-place-init
loop-place-init c = places_at_first c.args.names.now _ (c.in_ok-places.ensures ∙ ap (λ n. replicate n None) c.len.ensures)

pub set_place-requires-clause-count : goal.set_place-requires-clause-count
set_place-requires-clause-count c = c.loop-place.invariant.each_one

pub loop-place-preserved : goal.loop-place-preserved
loop-place-preserved c =
    let all = c.args.told.now in
    let i = c.loop-place.place in
    let more : take i all ++ c.index-told-place.result ∷ [] ≡ take (i + 1) all =
    ap (λ r. take i all ++ r ∷ []) c.index-told-place.is ∙ sym (take_more all i c.index-told-place.result c.loop-place-test.true) in
    let long : length (take i all) ≡ i = omega (arith, length-take i all, c.loop-place-test.true) in
    rw more at (c.set_place.ensures (take i all) long c.loop-place.invariant)

pub returns : goal.returns
returns c = rw (take_all c.loop-place.place c.args.told.now c.loop-place-test.false) at c.loop-place.invariant
