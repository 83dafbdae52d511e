use Rattle.std.proofs.Common.{Some}
use Rattle.mk_variables.specs.Definition.{put_at}
use Rattle.mk_variables.proofs.TableLemmas.{changes, keeps, at_ok, at_err}
use Rattle.mk_variables.proofs.table.Table.put.Goals as goal

pub returns-clause-ok : goal.returns-clause-ok
returns-clause-ok c =
    rw (← c.self.view_is) (at_ok c.put_in.result
    (changes c.self.inside.entries.entries c.put_in.new.entries.entries c.self.inside.exports_all c.self.inside.is_environment_first c.args.name.now
    (λ there. Some (put_at (record { text = c.args.text.now; flavor = c.args.flavor; origin = c.args.origin }) there)))
    c.put_in.ensures.ok)

pub returns-clause-err : goal.returns-clause-err
returns-clause-err c =
    rw (← c.self.view_is) (at_err c.put_in.result
    (keeps c.self.inside.entries.entries c.put_in.new.entries.entries c.self.inside.exports_all c.self.inside.is_environment_first) c.put_in.ensures.err)
