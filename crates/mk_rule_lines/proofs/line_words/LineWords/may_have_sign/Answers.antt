use Rattle.std.proofs.Common.{refl, sym, ap, ◌∙◌}
use Rattle.std.specs.List.{list_any}
use Rattle.mk_rule_lines.proofs.WordByteLemmas.{has_byte, none_in_words, from_not}
use Rattle.mk_rule_lines.proofs.line_words.LineWords.may_have_sign.Goals as goal

pub returns-clause-plus : goal.returns-clause-plus
returns-clause-plus c = λ none.
    sym (ap (list_any (has_byte 43)) c.self.view_is) ∙ none_in_words 43 refl refl c.self.inside.text (c.self.invariant (from_not _ none))

pub returns-clause-bracket : goal.returns-clause-bracket
returns-clause-bracket c = λ none.
    sym (ap (list_any (has_byte 40)) c.self.view_is) ∙ none_in_words 40 refl refl c.self.inside.text (c.self.invariant (from_not _ none))

pub returns-clause-percent : goal.returns-clause-percent
returns-clause-percent c = λ none.
    sym (ap (list_any (has_byte 37)) c.self.view_is) ∙ none_in_words 37 refl refl c.self.inside.text (c.self.invariant (from_not _ none))
