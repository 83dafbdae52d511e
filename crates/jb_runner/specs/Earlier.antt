-- Which recipes of a run have ended. Own.
use Rattle.std.specs.Prelude.{ℕ, Bool, ◌&&◌, not, List, get_or, nat_lt}

-- whether the recipe that made node n is among so many that ended first, by the places of the nodes in the order of the ends: 0 is none
abbrev pub is_among : (places : List ℕ) → (n first : ℕ) → Bool
is_among places n first = nat_lt 0 (get_or places n 0) && not (nat_lt first (get_or places n 0))
