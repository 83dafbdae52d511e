use Rattle.std.proofs.Common.{◌++◌, ◌∙◌, ap}
use Rattle.st_marks.specs.declared.mark.Mark.{Mark}
use Rattle.st_answers.specs.Why.{look_in, marked_stale, marked_why, of_row}
use Rattle.st_answers.proofs.WhyLemmas.{why_moved}
use Rattle.st_answers.proofs.why.append_marked.Goals as goal

pub loop-name-preserved : goal.loop-name-preserved
loop-name-preserved c =
    let look = look_in c.args.looks.now in
    let target = c.args.target.now in
    let name = c.in-Some.name.now in
    ap (λ t. t ++ marked_why look target c.next.new.self c.first-mark.new.self)
    (c.in_ok-append_of.ensures
    ∙ ap (λ o. c.loop-name.text.items ++ of_row target name o)
    (c.marked_stale-wrong.ensures ∙ ap (λ (m : Mark). marked_stale c.first-mark.result m) c.look_at.ensures))
    ∙ why_moved look target _ _ _ _ _ _ name _ c.loop-name.invariant c.in-Some.ensures.steps c.first-mark.ensures.first c.first-mark.ensures.left
