use Rattle.std.proofs.Common.{◌≡◌, sym, ap, ◌∙◌}
use Rattle.std.specs.List.{list_all}
use Rattle.byte_strings.specs.Blanks.{is_blank}
use Rattle.mk_lines.specs.Text.{is_empty}
use Rattle.mk_rule_lines.proofs.KindLemmas.{empty_decides}
use Rattle.mk_rule_lines.proofs.WordByteLemmas.{blanks_alone}
use Rattle.mk_rule_lines.proofs.line_words.LineWords.is_empty.Goals as goal

pub returns : goal.returns
returns c =
    let none = empty_decides c.args.self.now in
    let same : c.all_are_blank.result ≡ is_empty c.args.self.now =
    c.all_are_blank.ensures ∙ ap (list_all is_blank) c.as_slice.ensures ∙ blanks_alone c.self.inside.text ∙ ap is_empty c.self.view_is in
    (λ blank. none.0 (sym same ∙ blank), λ empty. same ∙ none.1 empty)
