use Rattle.std.proofs.Common.{◌≡◌, ℕ, ◌+◌, List, [], ◌∷◌, ◌++◌, length, set, ap, ◌∙◌, arith, length-set}
use Rattle.std.proofs.lemmas.List.{with_items_is}
use Rattle.mk_names.specs.Chains.{bucket}
use Rattle.mk_names.specs.declared.chains.Link.{Link}
use Rattle.mk_names.proofs.EndsLemmas.{ends_push}
use Rattle.mk_names.proofs.LinkLemmas.{linked_push}
use Rattle.mk_names.proofs.names.Names.push.Goals as goal

pub invariant_of-self-2 : goal.invariant_of-self-2
invariant_of-self-2 c =
    let links : List Link = c.make_room.new.links.items in
    let heads : List ℕ = c.make_room.new.heads.items in
    let heads' : List ℕ = c.put_last-before.new.heads in
    let link : Link = record { hash = c.args.hash; before = c.put_last-before.result } in
    let was = rw c.deref_mut.ensures.value at c.put_last-before.ensures.before in
    let put = rw c.deref_mut.ensures.value at c.put_last-before.ensures.heads in
    let longer : c.push_reserved.new.self.items ≡ links ++ link ∷ [] = c.push_reserved.ensures.items ∙ ap (λ (l : List Link). l ++ link ∷ []) c.make_room-2.ensures.items in
    let place : c.len-number.result ≡ length links = omega (arith, ap length c.make_room-2.ensures.items) in
    let many : length heads' ≡ length heads = ap length put ∙ length-set heads _ _ in
    let same = with_items_is c.make_room.new.heads heads' (grind arith) in (
      linked_push c.self.inside.names links heads c.args.name.now link c.push.new.self c.push_reserved.new.self.items _
          (c.make_room.ensures.same ∙ c.self.invariant.0.hashed) c.make_room.ensures.chained c.in_ok-make_room.ensures.room c.requires was c.in_ok-push.ensures.ok longer
          (same ∙ put ∙ ap (λ k. set heads (bucket (length heads) c.args.hash) (k + 1)) place),
      ends_push c.self.inside.ends c.mark.new.self c.self.inside.names c.push.new.self c.args.name.now c.mark.ensures.kept c.mark.ensures.marked c.self.invariant.1 c.in_ok-push.ensures.ok,
    )
