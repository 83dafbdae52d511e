use Rattle.std.proofs.Common.{◌<◌, length}
use Rattle.mk_names.specs.Names.{name_at}
use Rattle.jb_closing.specs.Last.{EndsDone}
use Rattle.jb_closing.proofs.ClosingLemmas.{lacks_by, done_by}
use Rattle.jb_closing.proofs.closing.lacks_done.Goals as goal

pub returns-in-Built-clause-lacks : goal.returns-in-Built-clause-lacks
returns-in-Built-clause-lacks c = λ is names are.
    (c.in-Built.is, lacks_by c.node_ends_done.result ((c.args.node < length names) × EndsDone c.args.told.now (name_at names c.args.node)) (c.node_ends_done.ensures names are) is)

pub returns-in-Built-clause-done : goal.returns-in-Built-clause-done
returns-in-Built-clause-done c = λ is names are built.
    done_by c.node_ends_done.result ((c.args.node < length names) × EndsDone c.args.told.now (name_at names c.args.node)) (c.node_ends_done.ensures names are) is

pub returns-in_default-clause-done : goal.returns-in_default-clause-done
returns-in_default-clause-done c = λ is names are built. absurd (c.in_default.not-Built built)
