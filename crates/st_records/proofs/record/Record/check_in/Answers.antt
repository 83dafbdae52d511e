use Rattle.std.proofs.Common.{sym, ◌∙◌}
use Rattle.st_records.proofs.TestLemmas.{within_in, first_from}
use Rattle.st_records.proofs.record.Record.check_in.Goals as goal

pub returns-in-None : goal.returns-in-None
returns-in-None c = within_in c.args.form c.args.self.now (sym c.fault.ensures ∙ c.in-None.is)

pub returns-in-Some : goal.returns-in-Some
returns-in-Some c = first_from c.args.form c.args.self.now c.in-Some.fault (sym c.fault.ensures ∙ c.in-Some.is)
