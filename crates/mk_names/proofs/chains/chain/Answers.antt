use Rattle.std.proofs.Common.{◌≡◌, ℕ, ◌+◌, ◌<◌, length, get_or, set, slice_index, refl, sym, ap, ◌∙◌, arith}
use Rattle.std.proofs.lemmas.List.{get_or-map}
use Rattle.mk_names.specs.Chains.{bucket}
use Rattle.mk_names.specs.Links.{hashes_of}
use Rattle.mk_names.specs.declared.chains.Link.{Link}
use Rattle.mk_names.proofs.LinkLemmas.{none_linked, same_still, linked_next, all_linked}
use Rattle.mk_names.proofs.chains.chain.Goals as goal

pub loop-number-init : goal.loop-number-init
loop-number-init c = record {
  same = refl;
  so_far = none_linked c.args.links.now c.args.links.now c.args.heads.now c.requires.empty c.requires.few;
  place = refl;
}

pub loop-number-preserved : goal.loop-number-preserved
loop-number-preserved c =
    let links = c.loop-number.links in
    let i = c.loop-number.number in
    let heads = c.loop-number.heads in
    let before = c.put_last-before.result in
    let so_far = c.loop-number.invariant in
    let first : Link = record { hash = 0; before = 0 } in
    let hash = (get_or links i first).hash in
    let link : Link = record { hash = hash; before = before } in
    let within : i < length links = omega (arith, c.loop-number-test.true, c.loop-number.auto.links) in
    let room : length links < length heads = omega (arith, c.requires.room, c.loop-number.auto.links, c.loop-number.auto.heads) in
    let own : hash ≡ get_or (hashes_of links) i 0 = sym (get_or-map (λ l. l.hash) links i first 0 within) in
    let is : link ≡ record { hash = get_or (hashes_of links) i 0; before = before } = ap {A = ℕ} {B = Link} (λ h. record { hash = h; before = before }) own in
    record {
      same = same_still c.args.links.now links heads i before within so_far.same link is;
      so_far = linked_next c.args.links.now links heads i before within so_far.same link is c.put_last-before.new.heads so_far.so_far room
          (c.put_last-before.ensures.before ∙ ap (λ h. slice_index heads (bucket (length heads) h)) own)
          (c.put_last-before.ensures.heads ∙ ap (λ k. set heads (bucket (length heads) hash) (k + 1)) so_far.place
          ∙ ap (λ h. set heads (bucket (length heads) h) (i + 1)) own);
      place = ap (λ k. k + 1) so_far.place;
    }

pub returns-clause-chained : goal.returns-clause-chained
returns-clause-chained c = all_linked c.args.links.now c.loop-number.links c.loop-number.heads c.loop-number.number c.loop-number.invariant.same (omega arith) c.loop-number.invariant.so_far
