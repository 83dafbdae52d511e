use Rattle.std.proofs.Common.{refl}
use Rattle.mk_names.specs.Chains.{bucket}
use Rattle.mk_names.proofs.chains.bucket_of.Goals as goal

pub returns-clause-value : goal.returns-clause-value
unfolding bucket
returns-clause-value c = refl
