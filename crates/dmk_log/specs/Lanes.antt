-- The lanes of recipes that run: each is free, or has the target of one. Own.
use Rattle.std.specs.Prelude.{◌≡◌, ◌≢◌, ℕ, ◌<◌, List, Option, None, get_or}

-- what runs in a lane; one that there isn't yet is free
abbrev pub runs_in : List (Option (List ℕ)) → (lane : ℕ) → Option (List ℕ)
runs_in lanes lane = get_or lanes lane None

pub record IsLowestFree (lanes : List (Option (List ℕ))) (lane : ℕ) : Type 0 where
  pub free : runs_in lanes lane ≡ None
  pub taken : (other : ℕ) → other < lane → runs_in lanes other ≢ None
