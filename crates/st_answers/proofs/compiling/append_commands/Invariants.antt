use Rattle.std.proofs.Common.{◌≡◌, ◌++◌}
use Rattle.std.specs.Prelude.{map as list_map}
use Rattle.std.specs.List.{flat_map}
use Rattle.st_answers.specs.Compilations.{compiled, compiled_by}
use Rattle.st_answers.proofs.compiling.append_commands.Given as goal

abbrev pub invariant-loop-command : goal.invariant-loop-command
invariant-loop-command l =
    list_map compiled l.found.items ++ flat_map (compiled_by l.all (l.name, l.entry)) l.command-iterator
    ≡ list_map compiled l.fn.found.items ++ flat_map (compiled_by l.all (l.name, l.entry)) l.entry.commands
