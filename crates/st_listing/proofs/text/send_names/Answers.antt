use Rattle.std.proofs.Common.{[], ◌++◌}
use Rattle.std.specs.List.{flat_map}
use Rattle.st_listing.specs.Listing.{line}
use Rattle.st_listing.proofs.LineLemmas.{next_text, text_moved}
use Rattle.st_listing.proofs.SendingLemmas.{at_error, part_within, sends_more, sends_nothing}
use Rattle.st_listing.proofs.text.send_names.Goals as goal

pub loop-name-init : goal.loop-name-init
loop-name-init g c = ([], cc, sends_nothing _ _)

pub loop-name-preserved : goal.loop-name-preserved
loop-name-preserved g c =
    let (sent, all, sends) = c.loop-name.invariant in (
      sent ++ line (c.args.mark.now ++ c.in-Some.name.now),
      text_moved (λ n. line (c.args.mark.now ++ n)) _ _ _ sent c.in-Some.name.now all c.in-Some.ensures.steps,
      sends_more _ _ _ _ _ _ _ _ sends c.in_ok-send_line.ensures,
    )

pub returns-in_err-send_line : goal.returns-in_err-send_line
returns-in_err-send_line g c =
    let (sent, all, sends) = c.loop-name.invariant in
    let text = line (c.args.mark.now ++ c.in-Some.name.now) in
    let others = flat_map (λ n. line (c.args.mark.now ++ n)) c.next.new.self in
    at_error _ c.from_residual.result _ _ _ _ _ c.from_residual.ensures.1 (
    part_within _ _ _ _ _ sent text others _ (next_text (λ n. line (c.args.mark.now ++ n)) _ _ _ sent c.in-Some.name.now all c.in-Some.ensures.steps) sends c.in_err-send_line.ensures
    )
