use Rattle.std.proofs.Common.{◌≡◌, ◌++◌, filter}
use Rattle.std.specs.Prelude.{map as list_map}
use Rattle.st_answers.specs.Compilations.{compiled, compiled_from, is_source_in}
use Rattle.st_answers.proofs.compiling.append_sources.Given as goal

abbrev pub invariant-loop-file : goal.invariant-loop-file
invariant-loop-file l =
    list_map compiled l.found.items ++ compiled_from l.command l.output (filter (is_source_in l.command) l.file-iterator)
    ≡ list_map compiled l.fn.found.items ++ compiled_from l.command l.output (filter (is_source_in l.command) l.fn.names)
