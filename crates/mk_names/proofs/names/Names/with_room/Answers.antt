use Rattle.std.proofs.Common.{List, ℕ}
use Rattle.mk_names.specs.declared.chains.Link.{Link}
use Rattle.mk_names.proofs.EndsLemmas.{ends_none}
use Rattle.mk_names.proofs.LinkLemmas.{found_none}
use Rattle.mk_names.proofs.names.Names.with_room.Goals as goal

pub invariant_of-result : goal.invariant_of-result
invariant_of-result c =
    let links : List Link = c.with_room-2.result.items in
    let heads : List ℕ = c.buckets_for.result.items in (
      found_none c.with_room.result links heads c.with_room.ensures c.with_room-2.ensures c.buckets_for.ensures.empty c.buckets_for.ensures.few,
      ends_none c.none.result c.with_room.result c.with_room.ensures,
    )
