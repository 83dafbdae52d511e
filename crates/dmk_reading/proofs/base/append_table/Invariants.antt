use Rattle.std.proofs.Common.{◌≡◌, ◌++◌, codes, drop, map}
use Rattle.std.specs.List.{flat_map}
use Rattle.dmk_reading.specs.Base.{variable_text}
use Rattle.dmk_reading.specs.Definitions.{variable}
use Rattle.dmk_reading.proofs.base.append_table.Given as goal

abbrev pub invariant-loop-entry : goal.invariant-loop-entry
invariant-loop-entry l =
    l.text.items ++ flat_map (variable_text (codes "default")) (map (λ entry. variable entry.0.now entry.1.now) (drop l.entry-index l.table))
    ≡ l.fn.text.items ++ flat_map (variable_text (codes "default")) (map (λ entry. variable entry.0.now entry.1.now) l.table)
