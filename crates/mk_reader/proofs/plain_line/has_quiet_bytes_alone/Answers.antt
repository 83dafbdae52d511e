use Rattle.std.proofs.Common.{◌+◌, ◌≤◌, ◌&&◌, length, drop, ap, ◌∙◌, arith}
use Rattle.std.specs.List.{list_all}
use Rattle.mk_reader.specs.Plain.{is_quiet}
use Rattle.mk_lines.proofs.TextLemmas.{all_step, all_end}
use Rattle.mk_reader.proofs.plain_line.has_quiet_bytes_alone.Goals as goal

pub loop-at-preserved : goal.loop-at-preserved
loop-at-preserved c = (
  omega (arith, c.loop-at-test.true),
  ap (λ t. (c.loop-at.is_alone && t) && list_all is_quiet (drop (c.loop-at.at + 1) c.args.bytes.now)) c.is_quiet-is_alone.ensures
      ∙ all_step is_quiet c.args.bytes.now c.loop-at.at c.loop-at.is_alone c.loop-at-test.true ∙ c.loop-at.invariant.1,
)

pub returns : goal.returns
returns c =
    let over : length c.args.bytes.now ≤ c.loop-at.at = omega (arith, c.loop-at-test.false) in
    all_end is_quiet c.args.bytes.now c.loop-at.at c.loop-at.is_alone over c.loop-at.invariant.1
