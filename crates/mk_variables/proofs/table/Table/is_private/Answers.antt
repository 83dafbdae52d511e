use Rattle.std.proofs.Common.{◌∙◌, sym, ap}
use Rattle.mk_variables.specs.Table.{is_private_at}
use Rattle.mk_variables.proofs.TableLemmas.{shown_at}
use Rattle.mk_variables.proofs.table.Table.is_private.Goals as goal

pub returns : goal.returns
returns c = rw (← c.self.view_is) (c.is_private_in.ensures ∙ ap is_private_at (sym (shown_at c.self.inside.entries.entries c.args.name.now)))
