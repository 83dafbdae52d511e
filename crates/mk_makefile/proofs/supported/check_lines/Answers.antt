use Rattle.std.proofs.lemmas.List.Elements.{AllWithin-more, at_read}
use Rattle.mk_makefile.specs.Supported.{IsSupported}
use Rattle.mk_makefile.proofs.supported.check_lines.Goals as goal

pub loop-line-preserved : goal.loop-line-preserved
loop-line-preserved c =
    let lines = c.args.lines.now in
    let i = c.loop-line.line-index in
    AllWithin-more IsSupported lines 0 i c.loop-line.invariant
    (at_read lines IsSupported i c.line-item.result c.loop-line-test.true c.line-item.is c.in_default.ensures)
