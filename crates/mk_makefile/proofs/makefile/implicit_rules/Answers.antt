use Rattle.std.proofs.Common.{true}
use Rattle.mk_rule_lines.specs.Rules.{targets_by}
use Rattle.mk_makefile.proofs.TakenLemmas.{one_recipe}
use Rattle.mk_makefile.proofs.makefile.implicit_rules.Goals as goal

pub returns-clause-recipes : goal.returns-clause-recipes
returns-clause-recipes c = one_recipe (targets_by true c.args.suffixes.now) c.args.lines.now c.in_ok-suffix_rules.suffix_rules c.in_ok-suffix_rules.ensures.table
