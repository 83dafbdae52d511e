use Rattle.std.proofs.Common.{◌≡◌, ◌||◌, ◌∙◌, ℕ, Bool, true, false, List, Some, sym, ap}
use Rattle.std.specs.List.{list_all}
use Rattle.mk_makefile.specs.Source.{source_at}
use Rattle.mk_makefile.specs.declared.form.Source.{Source}
use Rattle.mk_nodes.specs.Prerequisites.{is_target}
use Rattle.mk_nodes.specs.Wanted.{is_wanted, takes_any}
use Rattle.mk_sources.proofs.WantedLemmas.{unfit_among, passed_among, taken_among}
use Rattle.mk_sources.proofs.wanted.from_wanted.Goals as goal

pub returns-then-branch : goal.returns-then-branch
returns-then-branch c =
    let lines = c.args.rules.now.lines.now in
    let ought : List ℕ → Bool = λ n. is_target lines n || is_wanted lines n in
    let stem : List ℕ × List ℕ = (c.in-Some.folder.now, c.in-Some.stem.now) in
    let yes : list_all ought (source_at c.form-item.result stem).names ≡ true = sym c.in_ok-all_ought_to_exist.ensures ∙ c.if-branch.true in
    ap (λ (s : Source). Some s) c.in_ok-source.ensures
    ∙ sym (taken_among ought takes_any c.args.name.now c.args.rules.now.forms.now c.loop-form.form-index c.form-item.result c.loop-form-test.true c.form-item.is c.loop-form.invariant stem
    (sym c.in-Some.ensures) yes)

pub loop-form-preserved : goal.loop-form-preserved
loop-form-preserved c =
    let lines = c.args.rules.now.lines.now in
    let ought : List ℕ → Bool = λ n. is_target lines n || is_wanted lines n in
    let stem : List ℕ × List ℕ = (c.in-Some.folder.now, c.in-Some.stem.now) in
    let no : list_all ought (source_at c.form-item.result stem).names ≡ false = sym c.in_ok-all_ought_to_exist.ensures ∙ c.if-branch.false in
    passed_among ought takes_any c.args.name.now c.args.rules.now.forms.now c.loop-form.form-index c.form-item.result c.loop-form-test.true c.form-item.is c.loop-form.invariant stem
    (sym c.in-Some.ensures) no

pub loop-form-preserved-in_default : goal.loop-form-preserved-in_default
loop-form-preserved-in_default c =
    let lines = c.args.rules.now.lines.now in
    let ought : List ℕ → Bool = λ n. is_target lines n || is_wanted lines n in
    unfit_among ought takes_any c.args.name.now c.args.rules.now.forms.now c.loop-form.form-index c.form-item.result c.loop-form-test.true c.form-item.is c.loop-form.invariant
    (sym c.in_default.ensures)
