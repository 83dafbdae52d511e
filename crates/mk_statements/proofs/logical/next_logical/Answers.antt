use Rattle.std.proofs.Common.{option_copied}
use Rattle.mk_statements.specs.Logical.{physical}
use Rattle.mk_statements.proofs.LogicalLemmas.{is_next}
use Rattle.mk_statements.proofs.logical.next_logical.Goals as goal

pub returns-clause-line : goal.returns-clause-line
returns-clause-line c =
    is_next c.args.number c.args.bytes.now c.in_ok-text.text c.in_ok-text.next (option_copied c.next_line.result.1) (option_copied c.in_ok-text.left)
    (physical c.next_line.result.0) c.next_line.ensures.lines c.in_ok-text.ensures.left c.in_ok-text.ensures.kept c.in_ok-text.ensures.joined c.in_ok-text.ensures.number
