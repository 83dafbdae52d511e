use Rattle.std.proofs.Common.{sym, ◌∙◌}
use Rattle.mk_variables.specs.Definition.{undefined}
use Rattle.mk_variables.proofs.TableLemmas.{changes, nothing_there, kept_there, gone_there}
use Rattle.mk_variables.proofs.table.Table.remove.Goals as goal

pub returns-in-None : goal.returns-in-None
returns-in-None c =
    rw (← c.self.view_is)
    (changes c.self.inside.entries.entries c.self.inside.entries.entries c.self.inside.exports_all c.self.inside.is_environment_first c.args.name.now
    (undefined c.self.inside.is_environment_first c.args.origin)
    (nothing_there c.self.inside.entries.entries c.self.inside.is_environment_first c.args.origin c.args.name.now (sym c.met_origin.ensures ∙ c.in-None.is)))

pub returns-then-is_passed_over : goal.returns-then-is_passed_over
returns-then-is_passed_over c =
    rw (← c.self.view_is)
    (changes c.self.inside.entries.entries c.meet_in.new.entries.entries c.self.inside.exports_all c.self.inside.is_environment_first c.args.name.now
    (undefined c.self.inside.is_environment_first c.args.origin)
    (kept_there c.self.inside.entries.entries c.meet_in.new.entries.entries c.self.inside.is_environment_first c.args.origin c.args.name.now c.in-Some.there
    (sym c.met_origin.ensures ∙ c.in-Some.is) (sym c.is_passed_over.ensures ∙ c.if-is_passed_over.true) c.meet_in.ensures))

pub returns-else-is_passed_over : goal.returns-else-is_passed_over
returns-else-is_passed_over c =
    rw (← c.self.view_is)
    (changes c.self.inside.entries.entries c.remove_in.new.entries.entries c.self.inside.exports_all c.self.inside.is_environment_first c.args.name.now
    (undefined c.self.inside.is_environment_first c.args.origin)
    (gone_there c.self.inside.entries.entries c.remove_in.new.entries.entries c.self.inside.is_environment_first c.args.origin c.args.name.now c.in-Some.there
    (sym c.met_origin.ensures ∙ c.in-Some.is) (sym c.is_passed_over.ensures ∙ c.if-is_passed_over.false) c.remove_in.ensures))
