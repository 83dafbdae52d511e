-- Marks of hidden prerequisites, one less.
use Rattle.std.proofs.Common.{arith, ◌≡◌, ℕ, zero, suc, ◌+◌, ◌-◌, ◌<◌, Bool, true, List, ◌∷◌, ◌++◌, ap}
use Rattle.std.specs.Prelude.{replicate}

pub node_first : (nodes : ℕ) (marks : List Bool) → 0 < nodes → replicate nodes true ++ marks ≡ true ∷ (replicate (nodes - 1) true ++ marks)
node_first zero marks some = absurd (omega (arith, some))
node_first (suc n) marks some = let e : n ≡ suc n - 1 = omega arith in ap (λ k. true ∷ (replicate k true ++ marks)) e
