use Rattle.std.proofs.Common.{◌≡◌, ◌++◌, drop, map}
use Rattle.mk_seen.specs.Marks.{with_marks, marks_behind}
use Rattle.mk_seen.specs.Seen.{shown, seen_hard}
use Rattle.mk_seen.proofs.seen.push_hard.Given as goal

abbrev pub invariant-loop-hard : goal.invariant-loop-hard
invariant-loop-hard l =
    (map shown l.found.items ++ map (seen_hard l.graph l.marks) (with_marks (drop l.hard-index l.nodes) l.kept)
    ≡ map shown l.fn.found.items ++ map (seen_hard l.graph l.marks) (with_marks l.nodes l.fn.kept))
    × (marks_behind (drop l.hard-index l.nodes) l.kept ≡ marks_behind l.nodes l.fn.kept)
