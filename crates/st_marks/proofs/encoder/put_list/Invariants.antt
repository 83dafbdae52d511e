use Rattle.std.proofs.Common.{◌≡◌, ◌+◌, ◌≤◌, ◌++◌, length, drop, vec_len, vec_capacity}
use Rattle.std.specs.List.{flat_map, AllByRecursion}
use Rattle.st_marks.specs.Encoding.{mark_fields, FitsMark}
use Rattle.st_marks.proofs.encoder.put_list.Given as goal

-- what was written and what is left are all, and all fit if those that are left do
abbrev pub invariant-loop-mark : goal.invariant-loop-mark
invariant-loop-mark l =
    (l.out.items ++ flat_map mark_fields (drop l.mark-index l.marks) ≡ l.initial.out.items ++ flat_map mark_fields l.marks)
    × (vec_len l.out + length (flat_map mark_fields (drop l.mark-index l.marks)) ≡ vec_len l.initial.out + length (flat_map mark_fields l.marks))
    × (vec_capacity l.initial.out ≤ vec_capacity l.out)
    × (AllByRecursion FitsMark (drop l.mark-index l.marks) → AllByRecursion FitsMark l.marks)
