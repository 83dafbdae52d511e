use Rattle.std.proofs.Common.{◌≡◌, ◌+◌, ◌<◌, ◌≤◌, ◌++◌, true, length, flat_map, option_copied}
use Rattle.mk_lines.specs.Lines.{joint, rest_of_group, after_group, lines_left, size_left, number_after}
use Rattle.mk_statements.specs.Logical.{physical, joined_behind}
use Rattle.mk_statements.proofs.logical.join_rest.Given as goal

abbrev pub invariant-loop-left : goal.invariant-loop-left
invariant-loop-left l = record {
  kept : l.kept.items ++ flat_map (joint true) (rest_of_group (physical l.last) (lines_left (option_copied l.left)))
      ≡ l.initial.kept.items ++ flat_map (joint true) (rest_of_group (physical l.first) (lines_left (option_copied l.initial.left)));
  joined : joined_behind l.joined.items (rest_of_group (physical l.last) (lines_left (option_copied l.left)))
      ≡ joined_behind l.initial.joined.items (rest_of_group (physical l.first) (lines_left (option_copied l.initial.left)));
  number : number_after l.number (length (rest_of_group (physical l.last) (lines_left (option_copied l.left))))
      ≡ number_after l.first_number (length (rest_of_group (physical l.first) (lines_left (option_copied l.initial.left))) + 1);
  after : after_group (physical l.last) (lines_left (option_copied l.left)) ≡ after_group (physical l.first) (lines_left (option_copied l.initial.left));
  size : size_left (option_copied l.left) ≤ size_left (option_copied l.initial.left);
  small : l.number < 18446744073709551616;
}

abbrev pub decreases-loop-left : goal.decreases-loop-left
decreases-loop-left l = size_left (option_copied l.left)
