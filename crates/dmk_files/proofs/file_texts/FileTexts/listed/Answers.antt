use Rattle.std.proofs.Common.{sym, ap, ◌∙◌, option_map}
use Rattle.mk_rule_lines.proofs.ResultLemmas.{if_ok}
use Rattle.dmk_files.proofs.StampLemmas.{found_is, stamp_is, before}
use Rattle.dmk_files.specs.Listings.{known_names}
use Rattle.dmk_files.proofs.file_texts.FileTexts.listed.Goals as goal

pub returns-in-Some-clause-names : goal.returns-in-Some-clause-names
returns-in-Some-clause-names g c =
    let known = known_names c.args.self.now.listings in
    if_ok c.copy_of.result _ _
    (λ copy same world fits. same ∙ found_is known c.args.folder.now c.in-Some.known.now (sym c.get.ensures ∙ ap (option_map (λ f. f.now)) c.in-Some.is) world.folders fits)
    c.copy_of.ensures

pub returns-clause-names : goal.returns-clause-names
returns-clause-names g c = λ world fits.
    c.in_ok-copy.ensures
    ∙ stamp_is (known_names c.args.self.now.listings) _ c.args.folder.now c.in_ok-names.names c.in_ok-add.ensures.ok world.folders fits

pub returns-clause-grows : goal.returns-clause-grows
returns-clause-grows g c = λ world fits.
    before (known_names c.args.self.now.listings) _ c.args.folder.now c.in_ok-names.names c.in_ok-add.ensures.ok world.folders
    (sym c.get.ensures ∙ ap (option_map (λ f. f.now)) c.in_default.is) fits
