-- What the private functions compute of the two kinds of rules. `Doubles` says what it means.
use Rattle.std.specs.Prelude.{ℕ, Bool, not, ◌||◌, List, [], if◌then◌else◌}
use Rattle.std.specs.List.{flat_map}
use Rattle.mk_names.specs.Names.{all_added}
use Rattle.mk_rule_lines.specs.Rules.{is_rule}
use Rattle.mk_rule_lines.specs.declared.rule_line.RuleLine.{RuleLine}

abbrev pub is_double : RuleLine → Bool
is_double l = l.is_double

-- the targets of a rule with `::`, and those of one with `:`
abbrev pub double_targets : RuleLine → List (List ℕ)
double_targets l = if l.is_double then l.targets else []

abbrev pub single_targets : RuleLine → List (List ℕ)
single_targets l = if l.is_double || not (is_rule l) then [] else l.targets

-- those of all rules with `:`, each once
abbrev pub all_single_targets : List RuleLine → List (List ℕ)
all_single_targets lines = all_added [] (flat_map single_targets lines)
