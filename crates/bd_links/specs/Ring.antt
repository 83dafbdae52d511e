-- Places linked in rings. Own.
use Rattle.std.specs.Prelude.{◌≡◌, ℕ, ◌<◌, List, [], ◌∷◌}

-- the links forth and back stay among the places and undo one another
pub record IsRing (next prev : ℕ → ℕ) (places : ℕ) : Type 0 where
  pub next_in : (p : ℕ) → p < places → next p < places
  pub prev_in : (p : ℕ) → p < places → prev p < places
  pub there_and_back : (p : ℕ) → p < places → prev (next p) ≡ p
  pub back_and_there : (p : ℕ) → p < places → next (prev p) ≡ p

-- the links lead from a place through these places to the last one
abbrev pub Leads : (next : ℕ → ℕ) (from : ℕ) → List ℕ → (to : ℕ) → Type 0
Leads next from [] to = next from ≡ to
Leads next from (p ∷ between) to = (next from ≡ p) × Leads next p between to
