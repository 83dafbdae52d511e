-- Pools: how many recipes of some targets run at once (own, as ninja's pools).
use Rattle.std.specs.Prelude.{◌≡◌, ℕ, ◌-◌, Bool, true, List, [], ◌∷◌, ◌++◌, length, map, sum, slice_get, Some, min, if◌then◌else◌}
use Rattle.std.specs.List.{flat_map}
use Rattle.std.specs.Option.{option_map_or}
use Rattle.mk_names.specs.Names.{has_name, all_added}
use Rattle.mk_rule_lines.specs.Pools.{is_pool, most_said, members_in}
use Rattle.mk_rule_lines.specs.declared.rule_line.RuleLine.{RuleLine}
use Rattle.mk_settings.specs.declared.pools.Pool.{Pool}
use Rattle.mk_settings.specs.declared.pools.Share.{Share}

-- how many recipes of a line's targets run at once; a line that says nothing of it is refused
abbrev pub most_of : (words : List (List ℕ)) → ℕ
most_of words = option_map_or (λ most. most) (most_said words) 1

abbrev pub pool_by : (words : List (List ℕ)) → Pool
pool_by words = record { most = most_of words; members = all_added [] (members_in words) }

-- the pool of a line of `.POOL`
abbrev pub pool_in : RuleLine → List Pool
pool_in l = if is_pool l.special then pool_by l.prerequisites ∷ [] else []

-- a pool for each such line
abbrev pub pools_of : List RuleLine → List Pool
pools_of lines = flat_map pool_in lines

-- with one more line
abbrev pub pools_with : List Pool → RuleLine → List Pool
pools_with pools l = pools ++ pool_in l

-- the target is one of the pool's
abbrev pub is_member : (target : List ℕ) → Pool → Bool
is_member target p = has_name p.members target

-- its recipe is one of this pool, of which so many run at once
pub record HasShare (pools : List Pool) (target : List ℕ) (share : Share) : Type 0 where
  pub pool : Pool
  pub at : slice_get pools share.pool ≡ Some pool
  pub member : is_member target pool ≡ true
  pub most : share.most ≡ pool.most

-- how many recipes of a pool may wait while others of it run
abbrev pub waiting_in : Pool → ℕ
waiting_in p = length p.members - p.most

-- those of all pools; more than 32 aren't counted
abbrev pub waiting_for : List Pool → ℕ
waiting_for pools = min (sum (map waiting_in pools)) 32
