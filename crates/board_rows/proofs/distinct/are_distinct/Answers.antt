use Rattle.std.proofs.Common.{◌+◌, ◌∙◌, [], sym, subst}
use Rattle.std.proofs.lemmas.Bool.{not-true}
use Rattle.std.proofs.lemmas.List.{get_or_read}
use Rattle.mk_names.specs.Names.{has_name}
use Rattle.board_rows.proofs.DistinctLemmas.{AreNew, none_seen, one_more_seen, all_differ}
use Rattle.board_rows.proofs.distinct.are_distinct.Goals as goal

pub loop-name-init : goal.loop-name-init
loop-name-init c = subst (AreNew c.args.names.now 0) (sym c.new-seen.ensures) (none_seen c.args.names.now)

pub loop-name-preserved : goal.loop-name-preserved
loop-name-preserved c =
    let fresh = not-true (has_name c.loop-name.seen c.as_slice.result.now) (sym c.in_ok-is_new.ensures.fresh ∙ c.if-not-is_new.false) in
    subst (AreNew c.args.names.now (c.loop-name.name-index + 1)) (sym c.in_ok-is_new.ensures.ok)
    (one_more_seen c.args.names.now c.loop-name.name-index c.loop-name.seen c.as_slice.result.now c.loop-name-test.true
    (c.as_slice.ensures ∙ get_or_read c.args.names.now c.loop-name.name-index c.name-item.result c.loop-name-test.true c.name-item.is [])
    c.loop-name.invariant fresh)

pub returns : goal.returns
returns c = λ yes. all_differ c.args.names.now c.loop-name.name-index c.loop-name.seen c.loop-name.invariant c.loop-name-test.false
