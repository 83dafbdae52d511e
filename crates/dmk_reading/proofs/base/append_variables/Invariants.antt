use Rattle.std.proofs.Common.{◌≡◌, ◌++◌, drop}
use Rattle.std.specs.List.{flat_map}
use Rattle.dmk_reading.specs.Base.{variable_text}
use Rattle.dmk_reading.proofs.base.append_variables.Given as goal

abbrev pub invariant-loop-variable : goal.invariant-loop-variable
invariant-loop-variable l =
    l.text.items ++ flat_map (variable_text l.origin) (drop l.variable-index l.variables) ≡ l.fn.text.items ++ flat_map (variable_text l.origin) l.variables
