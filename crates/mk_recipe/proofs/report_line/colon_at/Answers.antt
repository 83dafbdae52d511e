use Rattle.std.proofs.Common.{◌∙◌, sym, arith}
use Rattle.mk_recipe.proofs.ReportLineLemmas.{colon-further}
use Rattle.mk_recipe.proofs.report_line.colon_at.Goals as goal

pub loop-at-preserved : goal.loop-at-preserved
loop-at-preserved c = record {
  within = omega arith;
  found = sym (colon-further c.args.line.now c.loop-at.at (omega arith) (sym c.is_cut.ensures ∙ c.if-is_cut.false)) ∙ c.loop-at.invariant.found;
}
