use Rattle.std.proofs.Common.{◌≡◌, length, false, sym, ◌∙◌, arith}
use Rattle.mk_depfiles.proofs.LineLemmas.{line_alone, line_cut}
use Rattle.mk_depfiles.proofs.lines.next_line.Goals as goal

pub returns-then-len-text-clause-lines : goal.returns-then-len-text-clause-lines
returns-then-len-text-clause-lines c =
    let all : c.line_len-len.result ≡ length c.args.text.now = omega (arith, c.if-len-text.true, c.line_len-len.ensures.within) in
    line_alone c.args.text.now false (sym c.line_len-len.ensures.value ∙ all)

pub returns-clause-lines : goal.returns-clause-lines
returns-clause-lines c = line_cut c.args.text.now c.line_len-len.result c.line_len-len.ensures.value (omega (arith, c.if-len-text.false))
