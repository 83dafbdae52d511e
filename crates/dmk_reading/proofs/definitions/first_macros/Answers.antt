use Rattle.dmk_reading.proofs.DefinitionLemmas.{all_ranks}
use Rattle.dmk_reading.proofs.definitions.first_macros.Goals as goal

pub returns : goal.returns
returns c =
    all_ranks c.args.profile c.args.definitions.now c.args.environment.now _ c.table.ensures
    c.new-macros.result c.define_table.new.macros c.define_environment.new.macros c.define_all.new.macros c.new-macros.ensures
    c.in_ok-define_table.ensures.ranks c.in_ok-define_table.ensures.language
    c.in_ok-define_environment.ensures.ranks c.in_ok-define_environment.ensures.language
    c.in_ok-define_all.ensures.ranks c.in_ok-define_all.ensures.language
