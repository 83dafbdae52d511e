-- Marks of hidden prerequisites, one more and one less.
use Rattle.std.proofs.Common.{◌≡◌, ℕ, ◌+◌, true, [], ◌∷◌, ◌++◌, sym}
use Rattle.std.specs.Prelude.{replicate}
use Rattle.std.proofs.lemmas.List.{replicate_more}

pub node_more : (count : ℕ) → replicate (count + 1) true ≡ replicate count true ++ true ∷ []
node_more count = sym (replicate_more count true)
