use Rattle.std.proofs.Common.{refl}
use Rattle.mk_names.specs.Hashing.{stirred}
use Rattle.mk_names.proofs.hashing.stirred.Goals as goal

pub returns : goal.returns
unfolding stirred
returns c = refl
