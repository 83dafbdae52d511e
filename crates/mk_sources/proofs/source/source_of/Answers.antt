use Rattle.std.proofs.Common.{◌≡◌, ◌+◌, ◌++◌, ◌∷◌, List, ℕ, [], Some, true, false, take, drop, refl, sym, ap, ◌∙◌}
use Rattle.std.specs.List.{list_all}
use Rattle.std.proofs.lemmas.List.{take-append-drop}
use Rattle.mk_sources.specs.LooksLaws.{looks_none, looks_on}
use Rattle.mk_makefile.specs.Source.{stem_of, source_at, source_of}
use Rattle.mk_sources.specs.Source.{IsAllFault, IsSourceFault}
use Rattle.mk_sources.specs.There.{is_there}
use Rattle.mk_makefile.specs.declared.form.Form.{Form}
use Rattle.mk_makefile.specs.declared.form.Source.{Source}
use Rattle.mk_sources.proofs.SourceLemmas.{from_form, taken, passed, unfit, source_of-behind, none_more, reached_fault}
use Rattle.mk_rule_lines.proofs.LineLemmas.{handed_on}
use Rattle.mk_sources.proofs.source.source_of.Goals as goal

pub returns-then-branch-clause-source : goal.returns-then-branch-clause-source
returns-then-branch-clause-source g c = λ looks now.
    let forms = c.args.forms.now in
    let name = c.args.name.now in
    let form = c.form-item.result in
    let k = c.loop-form.form-index in
    let stem : List ℕ × List ℕ = (c.in-Some.folder.now, c.in-Some.stem.now) in
    let there = is_there c.args.targets.now looks in
    let at = from_form forms k form c.loop-form-test.true c.form-item.is in
    let fits : stem_of form name ≡ Some stem = sym c.in-Some.ensures in
    let yes : list_all there (source_at form stem).names ≡ true
    = sym (c.in_ok-all_there.ensures.there looks now) ∙ c.if-branch.true in
    let found = taken there form (drop (k + 1) forms) name stem fits yes in
    let none = c.loop-form.invariant.none looks (c.in_ok-all_there.ensures.looks.narrows looks now) in
    ap (λ (s : Source). Some s) c.in_ok-source.ensures ∙ sym found ∙ sym (source_of-behind there (take k forms) (form ∷ drop (k + 1) forms) name none)
    ∙ ap (λ (fs : List Form). source_of there (take k forms ++ fs) name) (sym at) ∙ ap (λ (fs : List Form). source_of there fs name) (take-append-drop k forms)

pub loop-form-preserved : goal.loop-form-preserved
loop-form-preserved g c =
    let forms = c.args.forms.now in
    let name = c.args.name.now in
    let form = c.form-item.result in
    let k = c.loop-form.form-index in
    let stem : List ℕ × List ℕ = (c.in-Some.folder.now, c.in-Some.stem.now) in
    let inv = c.loop-form.invariant in
    let tells = c.in_ok-all_there.ensures in
    record {
      none = λ looks now.
          let there = is_there c.args.targets.now looks in
          let fits : stem_of form name ≡ Some stem = sym c.in-Some.ensures in
          let no : list_all there (source_at form stem).names ≡ false
          = sym (tells.there looks now) ∙ c.if-branch.false in
          none_more there forms k form name c.loop-form-test.true c.form-item.is (inv.none looks (tells.looks.narrows looks now)) (passed there form [] name stem fits no);
      looks = looks_on _ _ _ _ _ _ _ _ _ _ _ _ inv.looks tells.looks;
    }

pub loop-form-preserved-in_default : goal.loop-form-preserved-in_default
loop-form-preserved-in_default g c =
    let forms = c.args.forms.now in
    let name = c.args.name.now in
    let form = c.form-item.result in
    let inv = c.loop-form.invariant in
    record {
      none = λ looks now.
          let there = is_there c.args.targets.now looks in
          none_more there forms c.loop-form.form-index form name c.loop-form-test.true c.form-item.is (inv.none looks now)
          (unfit there form [] name (sym c.in_default.ensures));
      looks = inv.looks;
    }

pub returns-in_err-all_there-clause-fault : goal.returns-in_err-all_there-clause-fault
returns-in_err-all_there-clause-fault g c =
    let targets = c.args.targets.now in
    let allowed = g.T.Tree.allows c.all_there.new.tree in
    let refuses = g.T.Tree.refuses c.all_there.new.tree in
    let forms = c.args.forms.now in
    let name = c.args.name.now in
    let form = c.form-item.result in
    let stem : List ℕ × List ℕ = (c.in-Some.folder.now, c.in-Some.stem.now) in
    let fault = c.in_err-all_there.field-0.0 in
    let fits : stem_of form name ≡ Some stem = sym c.in-Some.ensures in
    let tells = c.in_err-all_there.ensures in
    let met : IsAllFault targets allowed refuses (source_at form stem).names fault
    = tells.fault in
    handed_on _ (IsSourceFault targets allowed refuses forms name) fault (c.from_residual.ensures).1
    (reached_fault targets allowed refuses forms name c.loop-form.form-index form stem c.loop-form-test.true c.form-item.is
    fits (λ looks now. c.loop-form.invariant.none looks (tells.looks.narrows looks now)) fault met)

pub returns-then-branch-clause-looks : goal.returns-then-branch-clause-looks
returns-then-branch-clause-looks g c = looks_on _ _ _ _ _ _ _ _ _ _ _ _ c.loop-form.invariant.looks c.in_ok-all_there.ensures.looks

pub returns-in_err-all_there-clause-looks : goal.returns-in_err-all_there-clause-looks
returns-in_err-all_there-clause-looks g c = looks_on _ _ _ _ _ _ _ _ _ _ _ _ c.loop-form.invariant.looks c.in_err-all_there.ensures.looks

pub loop-form-init : goal.loop-form-init
loop-form-init g c = record { none = λ looks now. refl; looks = looks_none _ _ _ _ }
