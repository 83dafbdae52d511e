use Rattle.std.proofs.Common.{◌∙◌, sym, ap, option_map}
use Rattle.mk_variables.specs.Table.{Entry}
use Rattle.mk_variables.proofs.TableLemmas.{shown_at}
use Rattle.mk_variables.proofs.table.TableDefinitions.variable.Goals as goal

pub returns : goal.returns
returns c =
    rw (← c.self.view_is) (c.variable_in.ensures ∙ ap (option_map (λ (e : Entry). e.variable)) (sym (shown_at c.self.inside.entries.entries c.args.name.now)))
