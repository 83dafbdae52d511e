use Rattle.std.proofs.Common.{◌≡◌, ◌<◌, ◌≤◌, length, sym, arith, ◌∙◌}
use Rattle.std.proofs.lemmas.List.{with_items_is}
use Rattle.jb_recipe.proofs.SilenceLemmas.{silenced_more, silenced_all}
use Rattle.jb_recipe.proofs.silence.unprinted.Goals as goal

pub loop-line-preserved : goal.loop-line-preserved
loop-line-preserved c =
    let within : c.loop-line.line-index < length c.loop-line.line-items = omega arith in
    silenced_more c.loop-line.line-items c.loop-line.line-index c.line-item.result within ∙ c.loop-line.invariant

pub returns : goal.returns
returns c =
    let past : length c.loop-line.line-items ≤ c.loop-line.line-index = omega arith in
    let count : length c.loop-line.line-items ≡ c.args.lines.len = omega arith in
    with_items_is c.args.lines c.loop-line.line-items count
    ∙ sym (silenced_all c.loop-line.line-items c.loop-line.line-index past) ∙ c.loop-line.invariant
