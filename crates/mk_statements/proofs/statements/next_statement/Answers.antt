use Rattle.std.proofs.Common.{◌∙◌, subst, option_copied}
use Rattle.mk_statements.specs.Reading.{IsBegun}
use Rattle.mk_statements.proofs.ReadingLemmas.{whole, opened}
use Rattle.mk_statements.proofs.statements.next_statement.Goals as goal

pub returns-in-Whole-clause-line : goal.returns-in-Whole-clause-line
returns-in-Whole-clause-line c =
    whole c.args.number c.args.bytes.now c.in_ok-text.text c.in_ok-text.next (option_copied c.in_ok-text.left) c.in_ok-text.ensures.line
    c.in-Whole.content (subst (λ b. IsBegun c.in_ok-text.text.kept c.in_ok-text.text.joined b) c.in-Whole.is c.in_ok-beginning.ensures)

pub returns-in_ok-content-in-Opens-clause-line : goal.returns-in_ok-content-in-Opens-clause-line
returns-in_ok-content-in-Opens-clause-line c =
    opened c.args.number c.args.bytes.now c.in_ok-text.text c.in_ok-text.next (option_copied c.in_ok-text.left) c.in_ok-text.ensures.line
    c.in-Opens.text (subst (λ b. IsBegun c.in_ok-text.text.kept c.in_ok-text.text.joined b) c.in-Opens.is c.in_ok-beginning.ensures)
    ∙ c.in_ok-content-in-Opens.ensures.content c.args.number
