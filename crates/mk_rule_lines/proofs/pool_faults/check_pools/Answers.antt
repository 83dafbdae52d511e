use Rattle.std.proofs.Common.{◌≡◌, ◌∙◌, ◌≤◌, List, length, Option, Some, true, false, take, subst, sym, ap, arith, IfSome, IfNone}
use Rattle.std.proofs.lemmas.Bool.Decides.{nat_tests}
use Rattle.std.proofs.lemmas.List.{take_all}
use Rattle.mk_names.specs.Names.{all_added}
use Rattle.mk_rule_lines.specs.Pools.{IsPoolCause, HasNoPoolCause, HasNoPoolFault, is_pool, names_in_pools}
use Rattle.mk_rule_lines.specs.declared.pool_faults.PoolCause.{PoolCause}
use Rattle.mk_rule_lines.specs.declared.rule_line.RuleLine.{RuleLine}
use Rattle.mk_rule_lines.proofs.LineLemmas.{from_line}
use Rattle.mk_rule_lines.proofs.PoolLemmas.{above_more, its_names, no_names, none_more, no_pool, pool_refused}
use Rattle.mk_rule_lines.proofs.pool_faults.check_pools.Goals as goal

pub returns-in-Some-clause-err : goal.returns-in-Some-clause-err
returns-in-Some-clause-err c =
    let lines = c.args.lines.now in
    let k = c.loop-line.line-index in
    let line = c.line-item.result in
    let meets : IfSome (Some c.in-Some.cause) (λ (cause : PoolCause). (above : List RuleLine) → c.loop-line.seen ≡ names_in_pools above → IsPoolCause above line cause) =
    subst (λ (found : Option PoolCause). IfSome found (λ (cause : PoolCause). (above : List RuleLine) → c.loop-line.seen ≡ names_in_pools above → IsPoolCause above line cause))
    c.in-Some.is c.in_ok-cause.ensures.some in
    pool_refused lines k line (record { place = c.in_ok-place.place; cause = c.in-Some.cause }) (from_line lines k line c.loop-line-test.true c.line-item.is)
    (meets (take k lines) c.loop-line.invariant.0) c.in_ok-place.ensures.0 c.in_ok-place.ensures.1

pub loop-line-preserved : goal.loop-line-preserved
loop-line-preserved c =
    let lines = c.args.lines.now in
    let k = c.loop-line.line-index in
    let line = c.line-item.result in
    let clear =
    subst (λ (found : Option PoolCause). IfNone found ((above : List RuleLine) → c.loop-line.seen ≡ names_in_pools above → HasNoPoolCause above line))
    c.in_default.is c.in_ok-cause.ensures.none in
    let is_one : is_pool line.special ≡ true = sym c.is_pool.ensures ∙ c.if-not-is_pool.false in (
      above_more lines k line c.loop-line.seen c.add_members.new.names c.loop-line-test.true c.line-item.is c.loop-line.invariant.0
          (c.in_ok-add_members.ensures ∙ ap (all_added c.loop-line.seen) (sym (its_names line is_one))),
      none_more lines k line c.loop-line-test.true c.line-item.is c.loop-line.invariant.1
          (clear (take k lines) c.loop-line.invariant.0),
    )

pub loop-line-preserved-then-not-is_pool : goal.loop-line-preserved-then-not-is_pool
loop-line-preserved-then-not-is_pool c =
    let lines = c.args.lines.now in
    let k = c.loop-line.line-index in
    let line = c.line-item.result in
    let is_none : is_pool line.special ≡ false = sym c.is_pool.ensures ∙ c.if-not-is_pool.true in (
      above_more lines k line c.loop-line.seen c.loop-line.seen c.loop-line-test.true c.line-item.is c.loop-line.invariant.0
          (ap (all_added c.loop-line.seen) (sym (no_names line is_none))),
      none_more lines k line c.loop-line-test.true c.line-item.is c.loop-line.invariant.1 (no_pool (take k lines) line is_none),
    )

pub returns-clause-ok : goal.returns-clause-ok
returns-clause-ok c =
    let lines = c.args.lines.now in
    let k = c.loop-line.line-index in
    let all : length lines ≤ k = grind (arith, nat_tests) in
    subst HasNoPoolFault (take_all k lines all) c.loop-line.invariant.1
