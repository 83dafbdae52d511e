use Rattle.std.proofs.Common.{◌∙◌}
use Rattle.mk_rule_lines.proofs.ResultLemmas.{if_ok}
use Rattle.mk_plan.proofs.parts.double_parts.Goals as goal

pub returns : goal.returns
returns c =
    if_ok c.double_lines.result _ _ (λ found are. are c.args.name.now (c.named.ensures.lines ∙ c.requires c.args.name.now)) c.double_lines.ensures
