use Rattle.std.proofs.Common.{◌≡◌, ◌≤◌, List, ℕ, [], ◌∷◌, Bool, true, false, not, length, take, Some, refl, sym, ap, subst, ◌∙◌, arith}
use Rattle.std.specs.Prelude.{slice_get}
use Rattle.std.specs.List.{list_all}
use Rattle.std.proofs.lemmas.List.{take_all}
use Rattle.std.proofs.lemmas.Option.{slice_get_read}
use Rattle.mk_rule_lines.proofs.LineLemmas.{handed_on}
use Rattle.mk_makefile.specs.Source.{source_at}
use Rattle.mk_sources.specs.There.{is_there}
use Rattle.mk_makefile.specs.declared.form.Source.{Source}
use Rattle.mk_nodes.specs.Chain.{usable, can_be, first_that, has_a_type}
use Rattle.mk_sources.specs.LooksLaws.{looks_none, looks_on}
use Rattle.mk_sources.specs.Search.{IsAmong, IsBehind, IsAskedIn, IsLedFault}
use Rattle.mk_sources.proofs.ChainLemmas.{unfit_more, passed_more, taken_first, candidates_at, led_on}
use Rattle.mk_sources.proofs.LinkLemmas.{passed_over}
use Rattle.mk_sources.proofs.chain.chained.Goals as goal

pub loop-number-init : goal.loop-number-init
loop-number-init g c = record { none = λ looks now. refl; looks = looks_none _ _ _ _ }

-- a form behind which no chain goes on
pub loop-number-preserved-then-not-may_lead_on : goal.loop-number-preserved-then-not-may_lead_on
loop-number-preserved-then-not-may_lead_on g c =
    let makers = c.args.makers.now in
    let forms = makers.forms.now in
    let k = c.loop-number.number in
    let form = c.form-item.result in
    let inv = c.loop-number.invariant in
    let at : slice_get forms k ≡ Some form = slice_get_read forms (length forms) k form refl c.loop-number-test.true c.form-item.is in
    record {
      none = λ looks now.
          passed_over (is_there makers.targets.now looks) forms c.args.name.now (c.requires.none looks (inv.looks.narrows looks now)) k form c.loop-number-test.true c.form-item.is
          (not c.has_a_type-any.result) c.args.steps (c.may_lead_on.ensures forms form makers.linked at c.if-not-may_lead_on.true) (inv.none looks now);
      looks = inv.looks;
    }

pub loop-number-preserved : goal.loop-number-preserved
loop-number-preserved g c =
    let makers = c.args.makers.now in
    let forms = makers.forms.now in
    let name = c.args.name.now in
    let form = c.form-item.result in
    let k = c.loop-number.number in
    let stem : List ℕ × List ℕ = (c.in-Some.folder.now, c.in-Some.stem.now) in
    let inv = c.loop-number.invariant in
    let tells = c.in_ok-all_can_be.ensures in
    record {
      none = λ looks now.
          let can : ℕ → List ℕ → Bool = λ rule. can_be (is_there makers.targets.now looks) forms c.args.steps (rule ∷ []) in
          let no : list_all (can form.rule) (source_at form stem).names ≡ false
          = ap (λ (s : Source). list_all (can form.rule) s.names) (sym c.in_ok-source.ensures) ∙ sym (tells.can_be looks now) ∙ c.if-branch.false in
          passed_more name (not c.has_a_type-any.result) [] forms k form c.loop-number-test.true c.form-item.is can (inv.none looks (tells.looks.narrows looks now)) stem (sym c.in-Some.ensures) no;
      looks = looks_on _ _ _ _ _ _ _ _ _ _ _ _ inv.looks tells.looks;
    }

pub loop-number-preserved-in_default : goal.loop-number-preserved-in_default
loop-number-preserved-in_default g c =
    let makers = c.args.makers.now in
    let inv = c.loop-number.invariant in
    record {
      none = λ looks now.
          unfit_more c.args.name.now (not c.has_a_type-any.result) [] makers.forms.now c.loop-number.number c.form-item.result c.loop-number-test.true c.form-item.is
          (λ rule. can_be (is_there makers.targets.now looks) makers.forms.now c.args.steps (rule ∷ [])) (inv.none looks now) (sym c.in_default.ensures);
      looks = inv.looks;
    }

pub returns-then-branch-clause-source : goal.returns-then-branch-clause-source
returns-then-branch-clause-source g c = λ looks now.
    let makers = c.args.makers.now in
    let forms = makers.forms.now in
    let name = c.args.name.now in
    let form = c.form-item.result in
    let k = c.loop-number.number in
    let stem : List ℕ × List ℕ = (c.in-Some.folder.now, c.in-Some.stem.now) in
    let tells = c.in_ok-all_can_be.ensures in
    let can : ℕ → List ℕ → Bool = λ rule. can_be (is_there makers.targets.now looks) forms c.args.steps (rule ∷ []) in
    let yes : list_all (can form.rule) (source_at form stem).names ≡ true
    = ap (λ (s : Source). list_all (can form.rule) s.names) (sym c.in_ok-source.ensures) ∙ sym (tells.can_be looks now) ∙ c.if-branch.true in
    ap (λ (s : Source). Some s) c.in_ok-source.ensures
    ∙ sym (taken_first name (not c.has_a_type-any.result) [] forms k form c.loop-number-test.true c.form-item.is can
    (c.loop-number.invariant.none looks (tells.looks.narrows looks now)) stem (sym c.in-Some.ensures) yes)
    ∙ ap (λ (typed : Bool). first_that can (usable (not typed) [] forms) name) c.has_a_type-any.ensures

pub returns-then-branch-clause-looks : goal.returns-then-branch-clause-looks
returns-then-branch-clause-looks g c = looks_on _ _ _ _ _ _ _ _ _ _ _ _ c.loop-number.invariant.looks c.in_ok-all_can_be.ensures.looks

pub returns-in_err-all_can_be-clause-looks : goal.returns-in_err-all_can_be-clause-looks
returns-in_err-all_can_be-clause-looks g c = looks_on _ _ _ _ _ _ _ _ _ _ _ _ c.loop-number.invariant.looks c.in_err-all_can_be.ensures.looks

pub returns-in_err-all_can_be-clause-fault : goal.returns-in_err-all_can_be-clause-fault
returns-in_err-all_can_be-clause-fault g c =
    let makers = c.args.makers.now in
    let forms = makers.forms.now in
    let name = c.args.name.now in
    let form = c.form-item.result in
    let refuses = g.T.Tree.refuses c.all_can_be.new.tree in
    let stem : List ℕ × List ℕ = (c.in-Some.folder.now, c.in-Some.stem.now) in
    let asked : List ℕ → List ℕ → Type 0 = IsAskedIn forms c.args.steps (form.rule ∷ []) in
    let behind : Bool → List ℕ → Type 0 = λ typed. IsBehind (λ rule. IsAskedIn forms c.args.steps (rule ∷ [])) (usable (not typed) [] forms) name in
    let f = c.in_err-all_can_be.field-0.0 in
    let met : IsLedFault makers.targets.now refuses (IsAmong asked (source_at form stem).names) f
    = subst (λ (s : Source). IsLedFault makers.targets.now refuses (IsAmong asked s.names) f) c.in_ok-source.ensures c.in_err-all_can_be.ensures.fault in
    handed_on _ (IsLedFault makers.targets.now refuses (behind (has_a_type forms name))) f (c.from_residual-in_err-all_can_be.ensures).1
    (subst (λ (typed : Bool). IsLedFault makers.targets.now refuses (behind typed) f) c.has_a_type-any.ensures
    (led_on makers.targets.now refuses (IsAmong asked (source_at form stem).names) (behind c.has_a_type-any.result)
    (λ n among. record {
      before = _;
      source = source_at form stem;
      behind = _;
      is = candidates_at name (not c.has_a_type-any.result) [] forms c.loop-number.number form c.loop-number-test.true c.form-item.is stem (sym c.in-Some.ensures);
      lead = among;
    })
    f met))

-- no form is left
pub returns-clause-source : goal.returns-clause-source
returns-clause-source g c = λ looks now.
    let makers = c.args.makers.now in
    let forms = makers.forms.now in
    let can : ℕ → List ℕ → Bool = λ rule. can_be (is_there makers.targets.now looks) forms c.args.steps (rule ∷ []) in
    let none = c.loop-number.invariant.none looks now in
    let all : length forms ≤ c.loop-number.number = let past = c.loop-number-test.false in omega arith in
    let whole : take c.loop-number.number forms ≡ forms = take_all c.loop-number.number forms all in
    sym (ap (λ (typed : Bool). first_that can (usable (not typed) [] forms) c.args.name.now) (sym c.has_a_type-any.ensures)
    ∙ ap (λ fs. first_that can (usable (not c.has_a_type-any.result) [] fs) c.args.name.now) (sym whole) ∙ none)
