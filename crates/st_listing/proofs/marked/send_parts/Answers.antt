use Rattle.std.proofs.Common.{◌++◌, codes}
use Rattle.std.specs.List.{flat_map}
use Rattle.std.specs.Option.{option_copied}
use Rattle.st_listing.specs.Listing.{command_text, file_line, line, marked_lines, source_lines}
use Rattle.st_listing.proofs.SendingLemmas.{at_error, part_behind, part_of_more, sends_behind, sends_more}
use Rattle.st_listing.proofs.marked.send_parts.Goals as goal

pub returns-in_err-send_files : goal.returns-in_err-send_files
returns-in_err-send_files g c =
    let files = flat_map file_line c.args.parts.files in
    let commands = flat_map (λ t. line (command_text t)) c.args.commands.now in
    let hidden = marked_lines (codes "    < ") c.args.hidden.now c.args.parts.hidden in
    let source = source_lines (option_copied c.args.parts.source) c.args.parts.of_source in
    let names = marked_lines (codes "    : ") c.args.names.now c.args.parts.explicit in
    let waited = c.args.buffer.now.items in
    at_error _ c.from_residual.result _ _ _ _ _ c.from_residual.ensures.1
    (part_of_more _ _ waited (files ++ commands ++ hidden ++ source) names
    (part_of_more _ _ waited (files ++ commands ++ hidden) source
    (part_of_more _ _ waited (files ++ commands) hidden (part_of_more _ _ waited files commands c.in_err-send_files.ensures))))

pub returns-in_err-send_commands : goal.returns-in_err-send_commands
returns-in_err-send_commands g c =
    let files = flat_map file_line c.args.parts.files in
    let commands = flat_map (λ t. line (command_text t)) c.args.commands.now in
    let hidden = marked_lines (codes "    < ") c.args.hidden.now c.args.parts.hidden in
    let source = source_lines (option_copied c.args.parts.source) c.args.parts.of_source in
    let names = marked_lines (codes "    : ") c.args.names.now c.args.parts.explicit in
    let waited = c.args.buffer.now.items in
    at_error _ c.from_residual-in_err-send_commands.result _ _ _ _ _ c.from_residual-in_err-send_commands.ensures.1
    (part_of_more _ _ waited (files ++ commands ++ hidden ++ source) names
    (part_of_more _ _ waited (files ++ commands ++ hidden) source
    (part_of_more _ _ waited (files ++ commands) hidden (part_behind _ _ _ waited _ files commands c.in_ok-send_files.ensures c.in_err-send_commands.ensures))))

pub returns-in_err-send_marked : goal.returns-in_err-send_marked
returns-in_err-send_marked g c =
    let files = flat_map file_line c.args.parts.files in
    let commands = flat_map (λ t. line (command_text t)) c.args.commands.now in
    let hidden = marked_lines (codes "    < ") c.args.hidden.now c.args.parts.hidden in
    let source = source_lines (option_copied c.args.parts.source) c.args.parts.of_source in
    let names = marked_lines (codes "    : ") c.args.names.now c.args.parts.explicit in
    let waited = c.args.buffer.now.items in
    at_error _ c.from_residual-in_err-send_marked.result _ _ _ _ _ c.from_residual-in_err-send_marked.ensures.1
    (part_of_more _ _ waited (files ++ commands ++ hidden ++ source) names
    (part_of_more _ _ waited (files ++ commands ++ hidden) source
    (part_behind _ _ _ waited _ (files ++ commands) hidden (sends_more _ _ _ _ _ _ files commands c.in_ok-send_files.ensures c.in_ok-send_commands.ensures) c.in_err-send_marked.ensures)))

pub returns-in_err-send_source : goal.returns-in_err-send_source
returns-in_err-send_source g c =
    let files = flat_map file_line c.args.parts.files in
    let commands = flat_map (λ t. line (command_text t)) c.args.commands.now in
    let hidden = marked_lines (codes "    < ") c.args.hidden.now c.args.parts.hidden in
    let source = source_lines (option_copied c.args.parts.source) c.args.parts.of_source in
    let names = marked_lines (codes "    : ") c.args.names.now c.args.parts.explicit in
    let waited = c.args.buffer.now.items in
    at_error _ c.from_residual-in_err-send_source.result _ _ _ _ _ c.from_residual-in_err-send_source.ensures.1
    (part_of_more _ _ waited (files ++ commands ++ hidden ++ source) names
    (part_behind _ _ _ waited _ (files ++ commands ++ hidden) source
    (sends_more _ _ _ _ _ _ (files ++ commands) hidden (sends_more _ _ _ _ _ _ files commands c.in_ok-send_files.ensures c.in_ok-send_commands.ensures) c.in_ok-send_marked.ensures)
    c.in_err-send_source.ensures))

pub returns : goal.returns
returns g c =
    sends_behind c.send_marked-2.result _ _ _ _ _ _ _ _
    (sends_more _ _ _ _ _ _ _ _
    (sends_more _ _ _ _ _ _ _ _ (sends_more _ _ _ _ _ _ _ _ c.in_ok-send_files.ensures c.in_ok-send_commands.ensures) c.in_ok-send_marked.ensures)
    c.in_ok-send_source.ensures)
    c.send_marked-2.ensures
