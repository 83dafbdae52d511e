use Rattle.std.proofs.Common.{[], ◌++◌}
use Rattle.std.specs.List.{flat_map}
use Rattle.st_listing.specs.Listing.{command_text, line}
use Rattle.st_listing.proofs.LineLemmas.{next_text, text_moved}
use Rattle.st_listing.proofs.SendingLemmas.{at_error, part_within, sends_more, sends_nothing}
use Rattle.st_listing.proofs.text.send_commands.Goals as goal

pub loop-command-init : goal.loop-command-init
loop-command-init g c = ([], cc, sends_nothing _ _)

pub loop-command-preserved : goal.loop-command-preserved
loop-command-preserved g c =
    let (sent, all, sends) = c.loop-command.invariant in (
      sent ++ line (command_text c.in-Some.command.now),
      text_moved (λ t. line (command_text t)) _ _ _ sent c.in-Some.command.now all c.in-Some.ensures.steps,
      sends_more _ _ _ _ _ _ _ _ sends c.in_ok-send_command.ensures,
    )

pub returns-in_err-send_command : goal.returns-in_err-send_command
returns-in_err-send_command g c =
    let (sent, all, sends) = c.loop-command.invariant in
    let text = line (command_text c.in-Some.command.now) in
    let others = flat_map (λ t. line (command_text t)) c.next.new.self in
    at_error _ c.from_residual.result _ _ _ _ _ c.from_residual.ensures.1 (
    part_within _ _ _ _ _ sent text others _ (next_text (λ t. line (command_text t)) _ _ _ sent c.in-Some.command.now all c.in-Some.ensures.steps) sends c.in_err-send_command.ensures
    )
