use Rattle.std.proofs.Common.{◌≡◌, ◌++◌, drop, map}
use Rattle.mk_seen.specs.Marks.{look_from, made_file, with_marks, marks_behind}
use Rattle.mk_seen.proofs.seen.push_beside.Given as goal

abbrev pub invariant-loop-look : goal.invariant-loop-look
invariant-loop-look l =
    (l.files.items ++ map made_file (with_marks (map look_from (drop l.look-index l.looks)) l.kept)
    ≡ l.fn.files.items ++ map made_file (with_marks (map look_from l.looks) l.fn.kept))
    × (marks_behind (map look_from (drop l.look-index l.looks)) l.kept ≡ marks_behind (map look_from l.looks) l.fn.kept)
