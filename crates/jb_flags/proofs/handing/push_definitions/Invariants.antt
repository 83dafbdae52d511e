use Rattle.std.proofs.Common.{◌≡◌, ◌++◌, filter, take}
use Rattle.std.specs.List.{flat_map}
use Rattle.jb_flags.specs.Handed.{is_passed_on, definition_word}
use Rattle.jb_flags.proofs.handing.push_definitions.Given as goal

-- the words of the definitions so far that are passed on
abbrev pub invariant-loop-variable : goal.invariant-loop-variable
invariant-loop-variable l = l.text.items ≡ l.fn.text.items ++ flat_map definition_word (filter is_passed_on (take l.variable-index l.variables))
