use Rattle.std.proofs.Common.{◌≡◌, length, sym, ◌∙◌, arith}
use Rattle.mk_wildcards.proofs.PatternLemmas.{part_alone, part_cut}
use Rattle.mk_wildcards.proofs.parts.split_part.Goals as goal

pub returns-then-len-path-clause-part : goal.returns-then-len-path-clause-part
returns-then-len-path-clause-part c =
    let all : c.part_len-len.result ≡ length c.args.path.now = omega (arith, c.if-len-path.true, c.part_len-len.ensures.within) in
    part_alone c.args.path.now (sym c.part_len-len.ensures.value ∙ all)

pub returns-clause-part : goal.returns-clause-part
returns-clause-part c = part_cut c.args.path.now c.part_len-len.result c.part_len-len.ensures.value (omega (arith, c.if-len-path.false))
