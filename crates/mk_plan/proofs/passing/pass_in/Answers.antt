use Rattle.std.specs.Prelude.{option_copied}
use Rattle.std.proofs.Common.{true, false, sym, ap, ◌∙◌}
use Rattle.mk_plan.proofs.PassingLemmas.{passed_bare, no_recipe}
use Rattle.mk_plan.proofs.passing.pass_in.Goals as goal

pub returns-in-None-clause-passes : goal.returns-in-None-clause-passes
returns-in-None-clause-passes c =
    passed_bare c.args.keeping c.args.graph.now c.args.marks.now c.args.node true
    (no_recipe c.args.graph.now c.args.node (sym c.recipe_line.ensures ∙ ap option_copied c.in-None.is)) (sym c.if-ends_remade.true ∙ c.ends_remade.ensures)

pub returns-in-None-2-clause-passes : goal.returns-in-None-2-clause-passes
returns-in-None-2-clause-passes c =
    passed_bare c.args.keeping c.args.graph.now c.args.marks.now c.args.node false
    (no_recipe c.args.graph.now c.args.node (sym c.recipe_line.ensures ∙ ap option_copied c.in-None-2.is)) (sym c.if-ends_remade.false ∙ c.ends_remade.ensures)
