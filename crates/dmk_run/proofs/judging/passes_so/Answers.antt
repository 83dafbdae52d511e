use Rattle.std.proofs.Common.{sym, ◌∙◌}
use Rattle.dmk_run.proofs.JudgingLemmas.{passes_unlisted, not_listed, by_mark}
use Rattle.dmk_run.proofs.judging.passes_so.Goals as goal
use Rattle.dmk_run.proofs.judging.passes_so.Goals.{then-not-is_listed, else-not-is_listed}

pub returns-in-Ok : goal.returns-in-Ok
returns-in-Ok c = λ yes.
    elim c.if-not-is_listed.branch [
      | then-not-is_listed w ↦
          passes_unlisted c.args.keeping c.args.graph.now c.args.marks.now c.args.node c.args.remade c.in-Ok.passed
          (sym (c.is_listed.ensures c.args.graph.now c.args.node) ∙ w.if-not-is_listed.true)
          (by_mark c.in-Ok.passed w.is_remade.result c.args.remade c.if-not-is_listed.result w.is_remade.ensures w.result-is yes)
          c.in-Ok.ensures.passes
      | else-not-is_listed w ↦ absurd (not_listed c.is_listed.result c.if-not-is_listed.result w.if-not-is_listed.false w.result-is yes)
    ]
