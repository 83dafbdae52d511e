use Rattle.std.proofs.Common.{rules}
use Rattle.st_answers.proofs.CompiledLemmas.{sources_taken}
use Rattle.st_answers.proofs.compiling.append_command.Goals as goal

pub returns-then-len-before : goal.returns-then-len-before
returns-then-len-before c =
    sources_taken c.args.all c.args.command.now (c.args.name.now, c.args.entry.now) c.args.found.now.items c.append_sources-2.new.found.items
    c.append_sources.new.found.items c.names.result c.hidden.result c.names.ensures c.hidden.ensures c.in_ok-append_sources.ensures c.in_ok-append_sources-2.ensures
    (search rules)
