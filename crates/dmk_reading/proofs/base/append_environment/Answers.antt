use Rattle.std.proofs.Common.{◌∙◌, sym, codes}
use Rattle.dmk_reading.specs.Base.{variable_text}
use Rattle.dmk_reading.proofs.BaseLemmas.{wide_text, strict_text}
use Rattle.dmk_reading.proofs.base.append_environment.Goals as goal

pub returns-in_ok-append_variable : goal.returns-in_ok-append_variable
returns-in_ok-append_variable c =
    wide_text (variable_text (codes "environment")) c.args.profile c.args.environment.now _ _ _ (sym c.is_wide.ensures ∙ c.if-is_wide.true)
    c.in_ok-append_variables.ensures c.in_ok-append_variable.ensures

pub returns-else-is_wide : goal.returns-else-is_wide
returns-else-is_wide c =
    strict_text (variable_text (codes "environment")) c.args.profile c.args.environment.now _ _ (sym c.is_wide.ensures ∙ c.if-is_wide.false)
    c.in_ok-append_variables.ensures
