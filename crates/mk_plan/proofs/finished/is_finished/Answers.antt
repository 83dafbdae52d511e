use Rattle.std.specs.Prelude.{option_copied}
use Rattle.std.proofs.Common.{◌∙◌, sym, ap}
use Rattle.mk_plan.proofs.FinishedLemmas.{finished_if}
use Rattle.mk_plan.proofs.finished.is_finished.Goals as goal

pub returns : goal.returns
returns c =
    finished_if c.args.keeping c.args.graph.now c.args.marks.now c.args.node c.in-Some.entry.now
    (sym c.entry_of.ensures ∙ ap option_copied c.in-Some.is) (sym c.gives_no_reason.ensures ∙ c.if-not-gives_no_reason.false)
    c.args.line.now c.requires.line (sym c.is_part.ensures ∙ c.if-is_part.false) _ c.commands.ensures c.is_kept_so.result c.is_kept_so.ensures
