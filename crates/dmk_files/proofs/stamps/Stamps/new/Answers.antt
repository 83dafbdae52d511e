use Rattle.std.proofs.Common.{length, ap}
use Rattle.mk_names.proofs.NameLemmas.{distinct_none}
use Rattle.dmk_files.proofs.stamps.Stamps.new.Goals as goal

pub invariant_of-result : goal.invariant_of-result
invariant_of-result c = record {
  once = rw c.new.ensures distinct_none;
  as_many = rw (c.new.ensures, c.empty.ensures) (ap length c.new-2.ensures.items);
}
