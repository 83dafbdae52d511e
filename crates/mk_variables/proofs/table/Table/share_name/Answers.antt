use Rattle.std.proofs.Common.{Some}
use Rattle.mk_variables.specs.Statement.{shared_as}
use Rattle.mk_variables.proofs.TableLemmas.{changes, keeps, at_ok, at_err}
use Rattle.mk_variables.proofs.table.Table.share_name.Goals as goal

pub returns-clause-ok : goal.returns-clause-ok
returns-clause-ok c =
    rw (← c.self.view_is) (at_ok c.share_in.result
    (changes c.self.inside.entries.entries c.share_in.new.entries.entries c.self.inside.exports_all c.self.inside.is_environment_first c.args.name.now
    (λ there. Some (shared_as c.args.sharing there)))
    c.share_in.ensures.ok)

pub returns-clause-err : goal.returns-clause-err
returns-clause-err c =
    rw (← c.self.view_is) (at_err c.share_in.result
    (keeps c.self.inside.entries.entries c.share_in.new.entries.entries c.self.inside.exports_all c.self.inside.is_environment_first) c.share_in.ensures.err)
