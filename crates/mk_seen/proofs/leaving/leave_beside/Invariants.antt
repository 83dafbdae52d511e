use Rattle.std.proofs.Common.{◌≡◌, drop, map}
use Rattle.std.specs.List.{list_all}
use Rattle.mk_seen.specs.Leaving.{leaves_made}
use Rattle.mk_seen.specs.Marks.{look_from, with_marks, marks_behind}
use Rattle.mk_seen.proofs.leaving.leave_beside.Given as goal

abbrev pub invariant-loop-look : goal.invariant-loop-look
invariant-loop-look l =
    (list_all (leaves_made l.keeping) (with_marks (map look_from (drop l.look-index l.looks)) l.kept)
    ≡ list_all (leaves_made l.keeping) (with_marks (map look_from l.looks) l.fn.kept))
    × (marks_behind (map look_from (drop l.look-index l.looks)) l.kept ≡ marks_behind (map look_from l.looks) l.fn.kept)
