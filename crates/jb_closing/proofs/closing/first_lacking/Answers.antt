use Rattle.std.proofs.Common.{Some, sym, ap, ◌∙◌, arith}
use Rattle.std.proofs.lemmas.Option.{slice_get-get_or, same_Some}
use Rattle.bd_places.specs.declared.end.End.TheVariants.{Built}
use Rattle.jb_closing.proofs.ClosingLemmas.{done_more, all_done, lacks_at}
use Rattle.jb_closing.proofs.closing.first_lacking.Goals as goal

pub loop-node-init : goal.loop-node-init
loop-node-init c = λ names are node before built. absurd (omega (arith, before))

pub loop-node-preserved : goal.loop-node-preserved
loop-node-preserved c = λ names are.
    done_more c.args.told.now names c.args.ends.now c.loop-node.node (c.loop-node.invariant names are)
    (λ built. c.lacks_done.ensures.done c.if-lacks_done.false names are (same_Some _ Built (sym (slice_get-get_or c.args.ends.now c.loop-node.node _ c.loop-node-test.true) ∙ built)))

pub returns-then-lacks_done : goal.returns-then-lacks_done
returns-then-lacks_done c = λ names are.
    let lacks = c.lacks_done.ensures.lacks c.if-lacks_done.true names are in
    lacks_at c.args.told.now names c.args.ends.now c.loop-node.node
    (slice_get-get_or c.args.ends.now c.loop-node.node _ c.loop-node-test.true ∙ ap Some lacks.0) lacks.1

pub returns : goal.returns
returns c = λ names are. all_done c.args.told.now names c.args.ends.now c.loop-node.node c.loop-node-test.false (c.loop-node.invariant names are)
