use Rattle.std.proofs.Common.{◌-◌, length, nat_eq, slice_index}
use Rattle.name_keys.proofs.EndsLemmas.{all_marked, both_marked}
use Rattle.name_keys.proofs.ends.NameEnds.any.Goals as goal

pub returns : goal.returns
returns c = λ name. both_marked (nat_eq (length name) 0) _ _ (all_marked 256 (slice_index name 0)) (all_marked 256 (slice_index name (length name - 1)))
