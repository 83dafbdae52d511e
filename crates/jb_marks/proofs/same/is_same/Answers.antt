use Rattle.std.proofs.Common.{◌∙◌, sym}
use Rattle.jb_marks.proofs.SameLemmas.{same_decides}
use Rattle.jb_marks.proofs.same.is_same.Goals as goal

pub returns : goal.returns
returns c =
    let decides = same_decides c.args.before.now c.args.behind.now in
    ((λ yes. decides.0 (sym c.are_still.ensures ∙ yes)), (λ same. c.are_still.ensures ∙ decides.1 same))
