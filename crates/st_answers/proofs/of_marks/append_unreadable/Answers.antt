use Rattle.std.proofs.Common.{◌++◌, ◌∙◌, ap, append_assoc, codes}
use Rattle.std.proofs.lemmas.Result.{on_ok_weaker}
use Rattle.st_answers.specs.Lines.{row}
use Rattle.st_answers.specs.Marks.{plain_rows}
use Rattle.st_answers.proofs.of_marks.append_unreadable.Goals as goal

pub returns : goal.returns
returns c =
    let rows = plain_rows c.args.names.now c.args.hidden.now in
    on_ok_weaker c.append_plain.result
    (λ last. last ∙ ap (λ t. t ++ rows) c.in_ok-append_row.ensures ∙ append_assoc c.args.text.now.items (row (codes "mark") (codes "unreadable")) rows)
    c.append_plain.ensures
