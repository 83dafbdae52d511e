use Rattle.std.proofs.Common.{◌≡◌, true, false, ap, ◌∙◌}
use Rattle.std.specs.List.{list_any}
use Rattle.mk_lines.specs.Text.{is_nul, begins_with}
use Rattle.mk_statements.specs.Told.{told_of, kind_of}
use Rattle.mk_statements.specs.Reading.{plain, rule_of, meaning_of}
use Rattle.mk_statements.specs.declared.said.Kind.TheVariants.{Says, Rule}
use Rattle.mk_statements.proofs.ReadingLemmas.{with_nul, with_tab, with_text, with_rule}
use Rattle.mk_statements.proofs.content.beginning_of.Goals as goal

pub returns-then-has_nul : goal.returns-then-has_nul
returns-then-has_nul c =
    let nul : list_any is_nul c.args.line.kept ≡ true = cc in
    with_nul c.args.line.kept c.args.line.joined nul

pub returns-then-begins_with : goal.returns-then-begins_with
returns-then-begins_with c =
    let no_nul : list_any is_nul c.args.line.kept ≡ false = cc in
    let tabbed : begins_with 9 c.args.line.kept ≡ true = cc in
    with_tab c.args.line.kept c.args.line.joined c.in_ok-line.line.text no_nul tabbed c.in_ok-line.ensures.text

pub returns-in-Says : goal.returns-in-Says
returns-in-Says c =
    let no_nul : list_any is_nul c.args.line.kept ≡ false = cc in
    let no_tab : begins_with 9 c.args.line.kept ≡ false = cc in
    let says : kind_of (told_of c.in_ok-line.line.text) ≡ Says = cc in
    with_text c.args.line.kept c.args.line.joined no_nul no_tab c.in_ok-line.line.text says c.in_ok-line.ensures.text

pub returns : goal.returns
returns c =
    let no_nul : list_any is_nul c.args.line.kept ≡ false = cc in
    let no_tab : begins_with 9 c.args.line.kept ≡ false = cc in
    let rule : kind_of (told_of c.in_ok-line.line.text) ≡ Rule = cc in
    let means : meaning_of c.in_ok-content-in-Rule.content ≡ plain (rule_of c.args.line.kept c.args.line.joined) =
    c.in_ok-content-in-Rule.ensures ∙ ap (λ j. plain (rule_of c.args.line.kept j)) c.in_ok-line.ensures.joined in
    with_rule c.args.line.kept c.args.line.joined no_nul no_tab c.in_ok-line.line.text c.in_ok-content-in-Rule.content rule c.in_ok-line.ensures.text means
