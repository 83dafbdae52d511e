use Rattle.std.proofs.Common.{◌≡◌, ℕ, List, take}
use Rattle.mk_macros.specs.Ranks.{defined_by}
use Rattle.dmk_reading.specs.Definitions.{last_value, with_last}
use Rattle.dmk_reading.proofs.definitions.define_all.Given as goal

abbrev pub invariant-loop-variable : goal.invariant-loop-variable
invariant-loop-variable l = record {
  ranks : (name : List ℕ) → (defined_by l.macros).ranks name ≡ with_last ((defined_by l.fn.macros).ranks name) l.rank (last_value (take l.variable-index l.variables) name);
  language : (defined_by l.macros).language ≡ (defined_by l.fn.macros).language;
}
