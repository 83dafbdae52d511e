use Rattle.std.proofs.Common.{◌≡◌, false, take}
use Rattle.std.specs.List.{list_any}
use Rattle.mk_settings.specs.Pools.{is_member}
use Rattle.mk_settings.proofs.pools.Pools.share_of.Given as goal

-- none so far has it
abbrev pub invariant-loop-pool : goal.invariant-loop-pool
invariant-loop-pool l = (l.place ≡ l.pool-index) × (list_any (is_member l.target) (take l.pool-index l.self) ≡ false)
