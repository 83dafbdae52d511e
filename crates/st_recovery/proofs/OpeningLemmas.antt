-- What an opening asks of its disk.
use Rattle.std.proofs.Common.{◌≡◌, ℕ, ◌+◌, ◌≤◌, List, inl, inr, arith}
use Rattle.st_disk.specs.Moments.{Moments}
use Rattle.st_file.specs.Side.{IsVoid}
use Rattle.st_file.proofs.CountLemmas.{none_more}
use Rattle.st_recovery.specs.Stored.{AreFewCalls}

-- a side was found
pub found_by_few : (seen_a seen_b : List ℕ) (m0 m1 m2 : Moments) → m1.newest ≤ m0.newest + 2 → m2 ≡ m1 → AreFewCalls seen_a seen_b m0 m2
found_by_few seen_a seen_b m0 m1 m2 few same = inl (omega (arith, few, none_more same))

-- none was, and one was created
pub created_by_few : (seen_a seen_b : List ℕ) (m0 m1 m2 : Moments) → m1.newest ≤ m0.newest + 2 → IsVoid seen_a → IsVoid seen_b → m2.newest ≤ m1.newest + 6 → AreFewCalls seen_a seen_b m0 m2
created_by_few seen_a seen_b m0 m1 m2 few void_a void_b more = inr (void_a, (void_b, omega (arith, few, more)))
