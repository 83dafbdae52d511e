use Rattle.std.proofs.Common.{◌++◌, ◌+◌, ◌∙◌, ap, codes, drop}
use Rattle.std.specs.List.{flat_map}
use Rattle.st_listing.specs.Listing.{continued, line}
use Rattle.st_listing.proofs.LineLemmas.{last_line, line_moved, next_line}
use Rattle.st_listing.proofs.SendingLemmas.{at_error, part_within, sends_last, sends_more}
use Rattle.st_listing.proofs.text.send_command.Goals as goal

pub returns-in_err-send_line : goal.returns-in_err-send_line
returns-in_err-send_line g c =
    let (sent, all, sends) = c.loop-end.invariant in
    let mark = c.loop-end.mark.now in
    let rest = c.loop-end.rest.now in
    let others = line (codes "    > " ++ flat_map continued (drop (c.in-Some.end + 1) rest)) in
    at_error _ c.from_residual.result _ _ _ _ _ c.from_residual.ensures.1 (
    part_within _ _ _ _ _ sent (line (mark ++ c.split_at.result.0.now)) others _
    (next_line _ sent mark rest _ c.in-Some.end c.in-Some.ensures c.split_at.ensures.front all)
    sends
    c.in_err-send_line.ensures
    )

pub loop-end-preserved : goal.loop-end-preserved
loop-end-preserved g c =
    let (sent, all, sends) = c.loop-end.invariant in
    let mark = c.loop-end.mark.now in
    let rest = c.loop-end.rest.now in (
      sent ++ line (mark ++ c.split_at.result.0.now),
      line_moved _ sent mark rest _ _ c.in-Some.end c.in-Some.ensures c.split_at.ensures.front c.split_at.ensures.back all,
      sends_more _ _ _ _ _ _ _ _ sends c.in_ok-send_line.ensures,
    )

pub returns : goal.returns
returns g c =
    let (sent, all, sends) = c.loop-end.invariant in
    let mark = c.loop-end.mark.now in
    let rest = c.loop-end.rest.now in
    sends_last c.send_line-2.result _ _ _ _ _ _ sent (line (mark ++ rest)) _ (all ∙ ap (λ t. sent ++ line (mark ++ t)) (last_line rest c.in_default.ensures)) sends c.send_line-2.ensures
