use Rattle.std.proofs.Common.{◌≡◌, ◌≤◌, ◌+◌, map, drop}
use Rattle.std.specs.Prelude.{min, sum}
use Rattle.mk_settings.specs.Pools.{waiting_in, waiting_for}
use Rattle.mk_settings.proofs.pools.Pools.waiting.Given as goal

abbrev pub invariant-loop-pool : goal.invariant-loop-pool
invariant-loop-pool l = (l.waiting ≤ 32) × (min (l.waiting + sum (map waiting_in (drop l.pool-index l.self))) 32 ≡ waiting_for l.self)
