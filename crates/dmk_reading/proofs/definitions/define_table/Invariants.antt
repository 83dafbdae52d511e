use Rattle.std.specs.Prelude.{map}
use Rattle.std.proofs.Common.{◌≡◌, ℕ, List, take}
use Rattle.mk_macros.specs.Ranks.{defined_by}
use Rattle.mk_macros.specs.declared.definitions.Rank.TheVariants.{Tool}
use Rattle.dmk_reading.specs.Definitions.{last_value, variable, with_last}
use Rattle.dmk_reading.proofs.definitions.define_table.Given as goal

abbrev pub invariant-loop-entry : goal.invariant-loop-entry
invariant-loop-entry l = record {
  ranks : (name : List ℕ) → (defined_by l.macros).ranks name
      ≡ with_last ((defined_by l.fn.macros).ranks name) Tool (last_value (map (λ entry. variable entry.0.now entry.1.now) (take l.entry-index l.table)) name);
  language : (defined_by l.macros).language ≡ (defined_by l.fn.macros).language;
}
