use Rattle.std.proofs.Common.{◌++◌}
use Rattle.std.specs.List.{flat_map}
use Rattle.st_listing.specs.Listing.{command_text, explicit_text, hidden_text, line}
use Rattle.st_listing.proofs.SendingLemmas.{at_error, part_behind, part_of_more, sends_behind, sends_more}
use Rattle.st_listing.proofs.text.send_plain.Goals as goal

pub returns-in_err-send_commands : goal.returns-in_err-send_commands
returns-in_err-send_commands g c =
    let commands = flat_map (λ t. line (command_text t)) c.args.commands.now in
    let hidden = flat_map (λ h. line (hidden_text h)) c.args.hidden.now in
    let names = flat_map (λ n. line (explicit_text n)) c.args.names.now in
    let waited = c.args.buffer.now.items in
    at_error _ c.from_residual.result _ _ _ _ _ c.from_residual.ensures.1
    (part_of_more _ _ waited (commands ++ hidden) names (part_of_more _ _ waited commands hidden c.in_err-send_commands.ensures))

pub returns-in_err-send_names : goal.returns-in_err-send_names
returns-in_err-send_names g c =
    let commands = flat_map (λ t. line (command_text t)) c.args.commands.now in
    let hidden = flat_map (λ h. line (hidden_text h)) c.args.hidden.now in
    let names = flat_map (λ n. line (explicit_text n)) c.args.names.now in
    let waited = c.args.buffer.now.items in
    at_error _ c.from_residual-in_err-send_names.result _ _ _ _ _ c.from_residual-in_err-send_names.ensures.1
    (part_of_more _ _ waited (commands ++ hidden) names (part_behind _ _ _ waited _ commands hidden c.in_ok-send_commands.ensures c.in_err-send_names.ensures))

pub returns : goal.returns
returns g c =
    sends_behind c.send_names-2.result _ _ _ _ _ _ _ _ (sends_more _ _ _ _ _ _ _ _ c.in_ok-send_commands.ensures c.in_ok-send_names.ensures) c.send_names-2.ensures
