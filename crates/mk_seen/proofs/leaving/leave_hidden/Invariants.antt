use Rattle.std.proofs.Common.{◌≡◌}
use Rattle.std.specs.List.{list_all}
use Rattle.mk_seen.specs.Leaving.{leaves_hidden}
use Rattle.mk_seen.specs.Marks.{with_marks}
use Rattle.mk_seen.specs.Nodes.{hidden_of}
use Rattle.mk_seen.proofs.leaving.leave_hidden.Given as goal

abbrev pub invariant-loop-hidden : goal.invariant-loop-hidden
invariant-loop-hidden l =
    list_all (leaves_hidden l.keeping l.graph l.marks l.made) (with_marks l.hidden-iterator l.kept)
    ≡ list_all (leaves_hidden l.keeping l.graph l.marks l.made) (with_marks (hidden_of l.graph l.node) l.fn.kept)
