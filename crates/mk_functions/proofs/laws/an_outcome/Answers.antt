use Rattle.std.proofs.Common.{[]}
use Rattle.mk_functions.specs.declared.limits.TheConstants.{MAX_CALLS}
use Rattle.mk_functions.proofs.SomeOutcomeLemmas.{levels_some}
use Rattle.mk_functions.proofs.laws.an_outcome.Goals as goal

pub returns : goal.returns
returns c = λ w variables listed known text. levels_some w variables listed known MAX_CALLS [] [] text
