use Rattle.std.proofs.Common.{◌||◌}
use Rattle.mk_recipe.specs.Report.{has}
use Rattle.mk_recipe.proofs.NameLemmas.{known_more}
use Rattle.mk_recipe.proofs.report.add_all.Goals as goal

pub loop-name-preserved : goal.loop-name-preserved
loop-name-preserved c = λ name.
    known_more c.in-Some.name.now name c.loop-name.names c.add.new.self c.loop-name.name-iterator c.next.new.self (has name c.args.names.now || has name c.args.added.now)
    c.in_ok-add.ensures c.in-Some.ensures.steps (c.loop-name.invariant name)
