use Rattle.std.proofs.Common.{◌≡◌, ◌+◌, ◌∷◌, length, sym, ap, ◌∙◌, arith}
use Rattle.mk_depfiles.specs.Lines.{line_len, quotes_next}
use Rattle.mk_depfiles.proofs.LineLemmas.{len_ends, len_more}
use Rattle.mk_depfiles.proofs.lines.line_len.Goals as goal

pub returns-then-ends_line : goal.returns-then-ends_line
returns-then-ends_line c =
    let none : line_len c.loop-byte.is_quoted c.loop-byte.rest.now ≡ 0 =
    ap (line_len c.loop-byte.is_quoted) c.in-Some.ensures.cases.0
    ∙ len_ends c.loop-byte.is_quoted c.in-Some.byte.now c.in-Some.behind.now (sym c.ends_line.ensures ∙ c.if-ends_line.true) in
    let at = c.loop-byte.invariant.value in
    let within = c.loop-byte.invariant.within in
    record { value = omega arith; within = omega arith }

pub loop-byte-preserved : goal.loop-byte-preserved
loop-byte-preserved c =
    let b = c.in-Some.byte.now in
    let behind = c.in-Some.behind.now in
    let q = c.loop-byte.is_quoted in
    let more : line_len q c.loop-byte.rest.now ≡ 1 + line_len (quotes_next q b) behind =
    ap (line_len q) c.in-Some.ensures.cases.0 ∙ len_more q b behind (sym c.ends_line.ensures ∙ c.if-ends_line.false) in
    let next : line_len c.quotes_next-is_quoted.result behind ≡ line_len (quotes_next q b) behind = ap (λ t. line_len t behind) c.quotes_next-is_quoted.ensures in
    let long : length c.loop-byte.rest.now ≡ length (b ∷ behind) = ap length c.in-Some.ensures.cases.0 in
    let at = c.loop-byte.invariant.value in
    let within = c.loop-byte.invariant.within in
    record { within = omega arith; value = omega arith }
