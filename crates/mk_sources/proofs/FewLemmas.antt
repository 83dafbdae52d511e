-- Less than two names are distinct.
use Rattle.std.proofs.Common.{arith, ◌≡◌, ◌<◌, ◌≤◌, ℕ, zero, suc, take, List, [], ◌∷◌, length, refl}
use Rattle.mk_nodes.specs.Prerequisites.{distinct}

pub few_counted : (count : ℕ) (names : List (List ℕ)) → count < 2 → count ≤ length names → count ≡ length (distinct (take count names))
few_counted zero names few there = refl
few_counted (suc zero) [] few there = absurd (omega (arith, there))
few_counted (suc zero) (n ∷ names) few there = refl
few_counted (suc (suc k)) names few there = absurd (omega (arith, few))
