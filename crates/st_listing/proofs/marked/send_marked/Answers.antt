use Rattle.std.proofs.Common.{[], ◌++◌}
use Rattle.st_listing.specs.Listing.{line, mark_below, marked_lines}
use Rattle.st_listing.proofs.LineLemmas.{marked_next, marked_moved}
use Rattle.st_listing.proofs.SendingLemmas.{at_error, part_within, sends_more, sends_nothing}
use Rattle.st_listing.proofs.marked.send_marked.Goals as goal

pub loop-name-init : goal.loop-name-init
loop-name-init g c = ([], cc, sends_nothing _ _)

pub loop-name-preserved : goal.loop-name-preserved
loop-name-preserved g c =
    let (sent, all, sends) = c.loop-name.invariant in (
      sent ++ (line (c.args.front.now ++ c.in-Some.name.now) ++ mark_below c.first-mark.result),
      marked_moved c.args.front.now _ _ _ _ _ sent c.in-Some.name.now _ all c.in-Some.ensures.steps c.first-mark.ensures.first c.first-mark.ensures.left,
      sends_more _ _ _ _ _ _ _ _ sends c.in_ok-send_name.ensures,
    )

pub returns-in_err-send_name : goal.returns-in_err-send_name
returns-in_err-send_name g c =
    let (sent, all, sends) = c.loop-name.invariant in
    let text = line (c.args.front.now ++ c.in-Some.name.now) ++ mark_below c.first-mark.result in
    let others = marked_lines c.args.front.now c.next.new.self c.first-mark.new.self in
    at_error _ c.from_residual.result _ _ _ _ _ c.from_residual.ensures.1 (
    part_within _ _ _ _ _ sent text others _
    (marked_next c.args.front.now _ _ _ _ _ sent c.in-Some.name.now _ all c.in-Some.ensures.steps c.first-mark.ensures.first c.first-mark.ensures.left)
    sends c.in_err-send_name.ensures
    )
