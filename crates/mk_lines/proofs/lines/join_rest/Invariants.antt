use Rattle.std.proofs.Common.{◌≡◌, ◌+◌, ◌<◌, ◌≤◌, length, option_copied}
use Rattle.mk_profile.specs.Profile.{is_wide}
use Rattle.mk_lines.specs.Lines.{physical, rest_of_group, after_group, lines_left, joined_behind, size_left, number_after}
use Rattle.mk_lines.specs.Search.{begun, HasRead}
use Rattle.mk_lines.proofs.lines.join_rest.Given as goal

abbrev pub invariant-loop-search : goal.invariant-loop-search
invariant-loop-search l = record {
  text : joined_behind l.is_recipe (is_wide l.fn.profile) l.text.items (rest_of_group (physical l.last) (lines_left (option_copied l.left)))
      ≡ joined_behind l.is_recipe (is_wide l.fn.profile) l.initial.text.items (rest_of_group (physical l.first) (lines_left (option_copied l.initial.left)));
  read : HasRead (begun l.is_recipe (is_wide l.fn.profile)) l.text.items l.search;
  number : number_after l.number (length (rest_of_group (physical l.last) (lines_left (option_copied l.left))))
      ≡ number_after l.first_number (length (rest_of_group (physical l.first) (lines_left (option_copied l.initial.left))) + 1);
  after : after_group (physical l.last) (lines_left (option_copied l.left)) ≡ after_group (physical l.first) (lines_left (option_copied l.initial.left));
  size : size_left (option_copied l.left) ≤ size_left (option_copied l.initial.left);
  small : l.number < 18446744073709551616;
}

abbrev pub decreases-loop-search : goal.decreases-loop-search
decreases-loop-search l = size_left (option_copied l.left)
