use Rattle.std.proofs.Common.{arith, ◌≡◌, ◌≤◌, ◌+◌, ◌∙◌, ℕ, List, length, map, drop, sym, ap, subst}
use Rattle.std.specs.Prelude.{min, sum}
use Rattle.std.proofs.lemmas.List.{drop_all}
use Rattle.mk_settings.specs.Pools.{waiting_in}
use Rattle.mk_settings.specs.declared.pools.Pool.{Pool}
use Rattle.mk_settings.proofs.pools.Pools.waiting.Goals as goal

pub returns : goal.returns
returns c =
    let waiting = c.loop-pool.waiting in
    let few : waiting ≤ 32 = c.loop-pool.invariant.0 in
    let same : waiting ≡ min (waiting + 0) 32 = omega arith in
    let within : length c.self.inside.pools.items ≤ c.loop-pool.pool-index =
    subst (λ (ps : List Pool). length ps ≤ c.loop-pool.pool-index) c.deref-pool-items.ensures.value c.loop-pool-test.false in
    let past = subst (λ (ps : List Pool). length ps ≤ c.loop-pool.pool-index) c.self.view_is within in
    let none = drop_all c.loop-pool.pool-index c.args.self.now past in
    same ∙ sym (ap (λ (ps : List Pool). min (waiting + sum (map waiting_in ps)) 32) none) ∙ c.loop-pool.invariant.1
