use Rattle.std.proofs.Common.{◌≡◌, drop}
use Rattle.std.specs.List.{list_all}
use Rattle.mk_seen.specs.Leaving.{leaves_hard}
use Rattle.mk_seen.specs.Marks.{with_marks, marks_behind}
use Rattle.mk_seen.proofs.leaving.leave_hard.Given as goal

abbrev pub invariant-loop-node : goal.invariant-loop-node
invariant-loop-node l =
    (list_all (leaves_hard l.keeping l.graph l.marks l.made) (with_marks (drop l.node-index l.nodes) l.kept)
    ≡ list_all (leaves_hard l.keeping l.graph l.marks l.made) (with_marks l.nodes l.fn.kept))
    × (marks_behind (drop l.node-index l.nodes) l.kept ≡ marks_behind l.nodes l.fn.kept)
