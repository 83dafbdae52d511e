use Rattle.std.proofs.Common.{◌≡◌, ◌∙◌, ◌++◌, OnOk, append-nil, ap, subst, sym}
use Rattle.st_answers.proofs.UserLemmas.{no_user, one_user}
use Rattle.st_answers.proofs.of_names.append_user.Goals as goal

pub returns-then-stands_on : goal.returns-then-stands_on
returns-then-stands_on c =
    subst (λ t. OnOk c.append_row.result (c.append_row.new.text.items ≡ c.args.text.now.items ++ t))
    (one_user c.args.name.now (c.args.user.now, c.args.entry.now) c.if-stands_on.ensures)
    c.append_row.ensures

pub returns-else-stands_on : goal.returns-else-stands_on
returns-else-stands_on c =
    sym (append-nil c.args.text.now.items) ∙ ap (λ t. c.args.text.now.items ++ t) (no_user c.args.name.now (c.args.user.now, c.args.entry.now) c.if-stands_on.ensures)
