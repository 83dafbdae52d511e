use Rattle.std.proofs.Common.{refl}
use Rattle.mk_names.proofs.NameLemmas.{distinct_none}
use Rattle.mk_makefile.proofs.table.TargetTable.with_room.Goals as goal

pub invariant_of-result : goal.invariant_of-result
invariant_of-result c = rw (c.with_room.ensures, c.in_ok-with_capacity.ensures.items) (distinct_none, refl)
