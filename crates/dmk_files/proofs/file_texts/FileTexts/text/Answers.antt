use Rattle.std.proofs.Common.{sym, ap, ◌∙◌, option_map}
use Rattle.mk_rule_lines.proofs.ResultLemmas.{if_ok}
use Rattle.dmk_files.proofs.StampLemmas.{found_is, stamp_is, before}
use Rattle.dmk_files.specs.Files.{known_text}
use Rattle.dmk_files.proofs.file_texts.FileTexts.text.Goals as goal

pub returns-in-Some-clause-text : goal.returns-in-Some-clause-text
returns-in-Some-clause-text g c =
    let known = known_text c.args.self.now.texts in
    let found = option_map (λ text. text.value.items) c.in-Some.known.now in
    if_ok c.shared.result _ _
    (λ copy same world fits. same ∙ found_is known c.args.name.now found (sym c.get.ensures ∙ ap (option_map (λ f. option_map (λ text. text.value.items) f.now)) c.in-Some.is) world.files fits.0)
    c.shared.ensures

pub returns-clause-text : goal.returns-clause-text
returns-clause-text g c = λ world fits.
    c.in_ok-answer.ensures
    ∙ stamp_is (known_text c.args.self.now.texts) _ c.args.name.now (option_map (λ text. text.value.items) c.in_ok-text.text) c.in_ok-add.ensures.ok world.files fits.0

pub returns-clause-grows : goal.returns-clause-grows
returns-clause-grows g c = λ world fits. (
  before (known_text c.args.self.now.texts) _ c.args.name.now (option_map (λ text. text.value.items) c.in_ok-text.text) c.in_ok-add.ensures.ok world.files
      (sym c.get.ensures ∙ ap (option_map (λ f. option_map (λ text. text.value.items) f.now)) c.in_default.is) fits.0,
  fits.1,
)
