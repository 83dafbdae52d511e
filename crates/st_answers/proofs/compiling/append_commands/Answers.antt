use Rattle.std.proofs.Common.{◌++◌, ◌∙◌, ap}
use Rattle.std.specs.List.{flat_map}
use Rattle.st_answers.specs.Compilations.{compiled_by}
use Rattle.st_answers.proofs.Loops.{moved}
use Rattle.st_answers.proofs.compiling.append_commands.Goals as goal

pub loop-command-preserved : goal.loop-command-preserved
loop-command-preserved c =
    let by = compiled_by c.args.all (c.args.name.now, c.args.entry.now) in
    ap (λ t. t ++ flat_map by c.next.new.self) c.in_ok-append_command.ensures
    ∙ moved by _ _ _ _ _ c.in-Some.command.now c.loop-command.invariant c.in-Some.ensures.steps
