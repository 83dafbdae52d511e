use Rattle.std.proofs.Common.{ap, ◌∙◌}
use Rattle.std.specs.FinMap as map
use Rattle.std.specs.FinMap.{get-empty}
use Rattle.st_state.specs.State.{by_name}
use Rattle.st_state.proofs.StateLemmas.{by_bytes}
use Rattle.st_state.proofs.state.State.with_key.Goals as goal

pub invariant_of-result : goal.invariant_of-result
invariant_of-result c = λ name h. ap (λ es. map.get (by_name (λ k. k) es) name) c.with_hasher.ensures.empty ∙ get-empty by_bytes name
