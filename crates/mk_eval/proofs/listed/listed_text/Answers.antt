use Rattle.std.proofs.Common.{◌||◌, sym, ap, ◌∙◌}
use Rattle.std.specs.List.{list_any}
use Rattle.mk_lines.specs.Text.{is_dollar}
use Rattle.mk_macros.specs.Ranks.{defined_by}
use Rattle.mk_wildcards.specs.Pattern.{has_wildcard}
use Rattle.mk_eval.specs.Short.{has_other_names}
use Rattle.mk_eval.proofs.ListedLemmas.{text_stands}
use Rattle.mk_eval.proofs.listed.listed_text.Goals as goal

pub returns-then-not-is_respelled-clause-text : goal.returns-then-not-is_respelled-clause-text
returns-then-not-is_respelled-clause-text g c = λ world allowed.
    text_stands world c.args.text (defined_by c.args.macros.now)
    (ap (list_any is_dollar) (sym c.as_slice.ensures) ∙ sym c.has_dollar.ensures ∙ c.if-not-has_dollar.true)
    (ap (λ t. has_other_names t || has_wildcard t) (sym c.as_slice-then-not-has_dollar.ensures) ∙ sym c.is_respelled.ensures ∙ c.if-not-is_respelled.true)
