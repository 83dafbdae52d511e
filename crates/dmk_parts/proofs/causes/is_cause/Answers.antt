use Rattle.std.proofs.Common.{◌∙◌, sym}
use Rattle.dmk_parts.specs.Behind.{was_made, stands_for_others, by_itself}
use Rattle.dmk_parts.proofs.causes.is_cause.Goals as goal
use Rattle.mk_rule_lines.proofs.ResultLemmas.{if_ok}

pub returns-then-is_made_before : goal.returns-then-is_made_before
returns-then-is_made_before c = λ it is. was_made (sym (c.is_made_before.ensures it is) ∙ c.if-is_made_before.true)

pub returns-then-is_group : goal.returns-then-is_group
returns-then-is_group c = λ it is. stands_for_others (sym (c.is_made_before.ensures it is) ∙ c.if-is_made_before.false) (sym (c.is_group.ensures it is) ∙ c.if-is_group.true)

pub returns : goal.returns
returns c =
    if_ok c.is_run_alone.result _ _
    (λ yes alone it is. by_itself yes (sym (c.is_made_before.ensures it is) ∙ c.if-is_made_before.false) (sym (c.is_group.ensures it is) ∙ c.if-is_group.false) alone)
    c.is_run_alone.ensures
