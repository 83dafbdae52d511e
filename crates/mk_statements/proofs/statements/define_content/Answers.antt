use Rattle.std.proofs.Common.{◌∷◌, [], ap, sym, ◌∙◌, option_copied}
use Rattle.mk_statements.specs.Reading.{outside, within, statements_left, stated_at}
use Rattle.mk_statements.proofs.ReadingLemmas.{body_none}
use Rattle.mk_statements.proofs.statements.define_content.Goals as goal

pub returns-clause-content : goal.returns-clause-content
returns-clause-content c = λ line.
    ap (λ o. statements_left (within line c.args.text 0 []) c.args.number (option_copied o)) c.in-Some.is
    ∙ c.in_ok-body.ensures.body line c.args.text
    ∙ ap (λ m. stated_at line m ∷ statements_left outside c.in_ok-body.next (option_copied c.in_ok-body.left)) (sym c.content_of_body.ensures)

pub returns-in_default-clause-content : goal.returns-in_default-clause-content
returns-in_default-clause-content c = λ line.
    ap (λ o. statements_left (within line c.args.text 0 []) c.args.number (option_copied o)) c.in_default.is
    ∙ body_none line c.args.text [] 0 c.args.number
