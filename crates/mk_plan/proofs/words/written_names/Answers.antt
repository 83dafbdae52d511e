use Rattle.mk_rule_lines.proofs.ResultLemmas.{if_ok}
use Rattle.mk_plan.proofs.words.written_names.Goals as goal

pub returns : goal.returns
returns c = if_ok c.explicit_of.result _ _ (λ found are. are c.args.name.now c.numbers_of.ensures) c.explicit_of.ensures
