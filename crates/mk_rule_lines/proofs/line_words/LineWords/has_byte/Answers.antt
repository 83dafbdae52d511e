use Rattle.std.proofs.Common.{sym, ap, ◌∙◌}
use Rattle.std.specs.List.{list_any}
use Rattle.mk_rule_lines.proofs.WordByteLemmas.{has_byte, byte_in_words, none_in_words}
use Rattle.mk_rule_lines.proofs.line_words.LineWords.has_byte.Goals as goal

pub returns : goal.returns
returns c =
    let byte = c.args.byte in
    c.contains.ensures.value ∙ ap (has_byte byte) c.as_slice.ensures ∙ sym (byte_in_words byte c.requires c.self.inside.text)
    ∙ ap (list_any (has_byte byte)) c.self.view_is

pub returns-then-is_sign : goal.returns-then-is_sign
returns-then-is_sign c =
    let byte = c.args.byte in
    sym (sym (ap (list_any (has_byte byte)) c.self.view_is)
    ∙ none_in_words byte (sym c.is_sign.ensures ∙ c.if-is_sign.true) c.requires c.self.inside.text (c.self.invariant c.if-self.true))
