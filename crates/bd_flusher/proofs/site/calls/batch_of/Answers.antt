use Rattle.std.proofs.Common.{ℕ, ◌<◌, ◌≤◌, leb, leb-true, leb-false, length, get_or, inl, inr, arith, rules}
use Rattle.std.proofs.lemmas.Bool.{cases_lt}
use Rattle.std.proofs.lemmas.List.Sorted.{IsPartitionPoint-from_clause, IsPartitionedBy-leb}
use Rattle.bd_flusher.proofs.BatchLemmas.{placed, none_over, nondecreasing}
use Rattle.bd_flusher.proofs.site.calls.batch_of.Goals as goal

pub returns : goal.returns
returns c =
    let parted = IsPartitionedBy-leb (λ (e : ℕ). e) _ c.args.ticket (nondecreasing 0 c.args.ends.now c.requires.increasing) in
    let point = IsPartitionPoint-from_clause (λ (e : ℕ). leb e c.args.ticket) _ _ c.partition_point.ensures.partitioned parted (λ a r q k. search rules) in
    let before : (j : ℕ) → j < c.partition_point.result → get_or c.args.ends.now j 0 ≤ c.args.ticket = λ j lt. leb-true _ _ (point.0 j 0 (omega arith) lt) in
    elim (cases_lt c.partition_point.result (length c.args.ends.now)) [
      | inl within ↦ placed 0 c.args.ends.now c.args.ticket c.partition_point.result (omega arith) within before (leb-false _ _ (point.1 c.partition_point.result 0 (omega arith) within))
      | inr past ↦ absurd (omega (arith, c.requires.told, none_over 0 c.args.ends.now c.args.ticket (omega arith) (λ j lt. before j (omega (arith, lt, past)))))
    ]
