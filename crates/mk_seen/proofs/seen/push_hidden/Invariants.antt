use Rattle.std.proofs.Common.{◌≡◌, ◌++◌, map}
use Rattle.mk_seen.specs.Marks.{with_marks}
use Rattle.mk_seen.specs.Nodes.{hidden_of}
use Rattle.mk_seen.specs.Seen.{shown, seen_hidden}
use Rattle.mk_seen.proofs.seen.push_hidden.Given as goal

abbrev pub invariant-loop-hidden : goal.invariant-loop-hidden
invariant-loop-hidden l =
    map shown l.found.items ++ map (seen_hidden l.graph l.marks) (with_marks l.hidden-iterator l.kept)
    ≡ map shown l.fn.found.items ++ map (seen_hidden l.graph l.marks) (with_marks (hidden_of l.graph l.node) l.fn.kept)
