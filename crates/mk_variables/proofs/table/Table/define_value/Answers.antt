use Rattle.std.proofs.Common.{Some}
use Rattle.mk_variables.specs.Definition.{defined}
use Rattle.mk_variables.proofs.TableLemmas.{changes, keeps, at_ok, at_err}
use Rattle.mk_variables.proofs.table.Table.define_value.Goals as goal

pub returns-clause-ok : goal.returns-clause-ok
returns-clause-ok c =
    rw (← c.self.view_is) (at_ok c.define_in.result
    (changes c.self.inside.entries.entries c.define_in.new.entries.entries c.self.inside.exports_all c.self.inside.is_environment_first c.args.name.now
    (λ there. Some (defined c.args.manner.is_environment_first c.args.manner.modifiers c.args.manner.sign c.args.manner.origin there c.args.value.items)))
    c.define_in.ensures.ok)

pub returns-clause-err : goal.returns-clause-err
returns-clause-err c =
    rw (← c.self.view_is) (at_err c.define_in.result
    (keeps c.self.inside.entries.entries c.define_in.new.entries.entries c.self.inside.exports_all c.self.inside.is_environment_first) c.define_in.ensures.err)
