use Rattle.mk_reader.specs.Form.{statement_form}
use Rattle.mk_reader.proofs.StatementLemmas.{plain_taken}
use Rattle.mk_reader.proofs.gathered.Gathered.take_statement.Goals as goal

pub returns-in-Some : goal.returns-in-Some
returns-in-Some c =
    let place = c.args.place in
    plain_taken place.file.now place.number (statement_form place.profile place.file.now place.number c.args.text.now) c.in_ok-rule.field-0 c.in-Some.rule c.in_ok-rule.ensures c.in-Some.is
    c.args.self.now.statements.items c.add.new.self.statements.items c.args.self.now.is_open c.add.new.self.is_open c.in_ok-add.ensures.statements c.in_ok-add.ensures.is_open
