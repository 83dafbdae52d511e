use Rattle.std.proofs.Common.{[], ◌++◌}
use Rattle.std.specs.List.{flat_map}
use Rattle.st_listing.specs.Listing.{file_line}
use Rattle.st_listing.proofs.LineLemmas.{next_text, text_moved}
use Rattle.st_listing.proofs.SendingLemmas.{at_error, part_within, sends_more, sends_nothing}
use Rattle.st_listing.proofs.marked.send_files.Goals as goal

pub loop-mark-init : goal.loop-mark-init
loop-mark-init g c = ([], cc, sends_nothing _ _)

pub loop-mark-preserved : goal.loop-mark-preserved
loop-mark-preserved g c =
    let (sent, all, sends) = c.loop-mark.invariant in (
      sent ++ file_line c.in-Some.mark,
      text_moved file_line _ _ _ sent c.in-Some.mark all c.in-Some.ensures.steps,
      sends_more _ _ _ _ _ _ _ _ sends c.in_ok-send_mark.ensures,
    )

pub returns-in_err-send_mark : goal.returns-in_err-send_mark
returns-in_err-send_mark g c =
    let (sent, all, sends) = c.loop-mark.invariant in
    let others = flat_map file_line c.next.new.self in
    at_error _ c.from_residual.result _ _ _ _ _ c.from_residual.ensures.1 (
    part_within _ _ _ _ _ sent (file_line c.in-Some.mark) others _ (next_text file_line _ _ _ sent c.in-Some.mark all c.in-Some.ensures.steps) sends c.in_err-send_mark.ensures
    )
