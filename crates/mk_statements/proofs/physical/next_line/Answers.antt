use Rattle.std.proofs.Common.{◌≡◌, ◌∷◌, ◌∙◌, drop, sym}
use Rattle.mk_lines.specs.Lines.{lines_left}
use Rattle.mk_lines.proofs.LinesLemmas.{lines_left-newline, lines_left-end}
use Rattle.mk_statements.proofs.physical.next_line.Goals as goal

pub returns-in-Some-clause-lines : goal.returns-in-Some-clause-lines
returns-in-Some-clause-lines c =
    let at : drop c.len_before.result c.args.bytes.now ≡ c.in-Some.field-0-0.now ∷ c.in-Some.after.now = sym c.split_at.ensures.back ∙ c.in-Some.ensures.cases.0 in
    let lines = lines_left-newline c.args.bytes.now c.in-Some.after.now c.len_before.result c.in-Some.field-0-0.now c.len_before.ensures.value at in
    cc

pub returns-in-None-clause-lines : goal.returns-in-None-clause-lines
unfolding lines_left
returns-in-None-clause-lines c =
    let lines = lines_left-end c.args.bytes.now c.len_before.result c.len_before.ensures.value (rw (← c.split_at.ensures.back) c.in-None.ensures.cases) in
    cc
