use Rattle.std.proofs.Common.{rules}
use Rattle.std.proofs.lemmas.List.Sorted.{IsNonDecreasingBy-from_sort_by_key}
use Rattle.bl_log.specs.Spans.{shorter}
use Rattle.bl_log.proofs.times.by_time.Goals as goal

pub returns-clause-order : goal.returns-clause-order
returns-clause-order c = IsNonDecreasingBy-from_sort_by_key shorter _ c.in_ok-sort_by_key.ensures.sorted (λ a r q k. search rules)
