use Rattle.std.proofs.Common.{◌+◌, drop}
use Rattle.mk_makefile.specs.Kinded.{all_single_targets}
use Rattle.mk_makefile.proofs.DoubleLemmas.{singles_go_on}
use Rattle.mk_rule_lines.proofs.LineLemmas.{from_line}
use Rattle.mk_makefile.proofs.doubles.all_single_targets.Goals as goal

pub loop-line-preserved : goal.loop-line-preserved
loop-line-preserved c =
    let lines = c.args.lines.now in
    let k = c.loop-line.line-index in
    let at = from_line lines k c.line-item.result c.loop-line-test.true c.line-item.is in
    singles_go_on c.loop-line.names c.add_targets.new.names (all_single_targets lines) c.line-item.result (drop k lines) (drop (k + 1) lines) at
    c.in_ok-add_targets.ensures c.loop-line.invariant
