use Rattle.std.proofs.Common.{◌∙◌, ap}
use Rattle.mk_macros.specs.Ranks.{Defined, defined_by}
use Rattle.mk_macros.specs.declared.definitions.Rank.TheVariants.{Tool}
use Rattle.dmk_reading.specs.Definitions.{variable}
use Rattle.dmk_reading.proofs.DefinitionLemmas.{one_more_at}
use Rattle.dmk_reading.proofs.definitions.define_table.Goals as goal

pub loop-entry-preserved : goal.loop-entry-preserved
loop-entry-preserved c = record {
  ranks = λ name.
      ap (λ (d : Defined). d.ranks name) c.in_ok-define.ensures.ok
      ∙ one_more_at (defined_by c.loop-entry.macros).language c.args.table.now c.loop-entry.entry-index _ c.loop-entry-test.true (λ entry. variable entry.0.now entry.1.now)
      (defined_by c.loop-entry.macros).ranks (defined_by c.args.macros.now).ranks Tool c.loop-entry.invariant.ranks name;
  language = ap (λ (d : Defined). d.language) c.in_ok-define.ensures.ok ∙ c.loop-entry.invariant.language;
}
