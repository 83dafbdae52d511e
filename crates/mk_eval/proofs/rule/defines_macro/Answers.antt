use Rattle.mk_eval.proofs.RuleLemmas.{macro_decides, macro_never}
use Rattle.mk_eval.proofs.rule.defines_macro.Goals as goal

pub returns-in-Some : goal.returns-in-Some
returns-in-Some c = macro_decides c.args.text.now c.in-Some.left.now c.in-Some.field-0-1.now c.in-Some.ensures c.name_macro.result c.name_macro.ensures

pub returns-in-None : goal.returns-in-None
returns-in-None c = macro_never c.args.text.now c.in-None.ensures
