use Rattle.std.proofs.Common.{◌≡◌, true, ◌++◌, Option, Some, None, arith}
use Rattle.std.specs.Option.{IfNone}
use Rattle.std.specs.List.{list_all}
use Rattle.mk_graph.specs.Watching.{is_passed}
use Rattle.mk_graph.proofs.SeenLemmas.{all_of_both}
use Rattle.mk_graph.proofs.watching.missing_of.Goals as goal

if_none : {A : Type 0} (found : Option A) (P : Type 0) → P → IfNone found P
if_none (Some x) P p = tt
if_none None P p = p

pub returns-in_err-place-clause-none : goal.returns-in_err-place-clause-none
returns-in_err-place-clause-none c =
    if_none c.from_residual.result (list_all (is_passed c.args.passed.now) (c.args.first.now ++ c.args.second.now) ≡ true)
    (all_of_both c.args.passed.now c.args.first.now c.args.second.now c.args.end c.saturating_sub-behind.result (omega (arith, c.saturating_sub-behind.ensures))
    c.requires.seen c.in_err-place.ensures.none c.in_default.ensures.none)
