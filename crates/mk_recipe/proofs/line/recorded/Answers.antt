use Rattle.std.proofs.Common.{◌∙◌, ◌≤◌, length, sym, ap, subst, arith}
use Rattle.std.proofs.lemmas.List.{take_all}
use Rattle.mk_recipe.specs.Line.{Records}
use Rattle.mk_recipe.specs.Tests.{recorded_texts}
use Rattle.mk_recipe.proofs.RecordedLemmas.{recorded_by}
use Rattle.mk_recipe.proofs.line.recorded.Goals as goal

pub returns : goal.returns
returns c =
    let past : length c.args.lines.now ≤ c.loop-line.line-index = omega arith in
    let all = c.loop-line.invariant ∙ ap recorded_texts (take_all c.loop-line.line-index c.args.lines.now past) in
    subst (λ commands. Records c.args.lines.now commands) (sym all) (recorded_by c.args.lines.now)
