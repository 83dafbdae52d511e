use Rattle.std.proofs.Common.{◌≡◌, ◌<◌, ◌-◌, ◌++◌, ◌∷◌, ◌&&◌, List, ℕ, [], Bool, true, false, length, Some, refl, sym, ap, subst, ◌∙◌, arith}
use Rattle.std.specs.Prelude.{is_some, slice_get}
use Rattle.std.proofs.lemmas.Option.{slice_get_read}
use Rattle.std.specs.List.{list_all}
use Rattle.std.proofs.lemmas.List.{append_assoc, append-nil}
use Rattle.mk_rule_lines.proofs.LineLemmas.{handed_on}
use Rattle.mk_makefile.specs.Source.{source_at}
use Rattle.mk_sources.specs.There.{is_there}
use Rattle.mk_makefile.specs.declared.form.Source.{Source}
use Rattle.mk_nodes.specs.Chain.{usable, can_be}
use Rattle.mk_sources.specs.LooksLaws.{looks_none, looks_on}
use Rattle.mk_sources.specs.Search.{IsAmong, IsBehind, IsAskedIn, IsLedFault}
use Rattle.mk_sources.proofs.SourceLemmas.{all_more, all_left}
use Rattle.mk_sources.proofs.ChainLemmas.{unfit_more, passed_more, taken_first, candidates_at, there_can, none_can, made_can, led_on, led_here, asked_here, asked_behind}
use Rattle.mk_sources.proofs.chain.+chain.Goals as goal

-- ---- one name

pub can_be-returns-then-branch-clause-can_be : goal.can_be-returns-then-branch-clause-can_be
can_be-returns-then-branch-clause-can_be g t c = λ looks now.
    let tells = c.in_ok-is_there.ensures in
    sym (there_can (is_there c.args.makers.now.targets.now looks) c.args.makers.now.forms.now c.args.steps c.args.taken.now c.args.name.now (sym (tells.there looks now) ∙ c.if-branch.true))

pub can_be-returns-then-steps-eq0-clause-can_be : goal.can_be-returns-then-steps-eq0-clause-can_be
can_be-returns-then-steps-eq0-clause-can_be g t c = λ looks now.
    let tells = c.in_ok-is_there.ensures in
    let none : c.args.steps ≡ 0 = cc in
    sym (none_can (is_there c.args.makers.now.targets.now looks) c.args.makers.now.forms.now c.args.steps c.args.taken.now c.args.name.now none (sym (tells.there looks now) ∙ c.if-branch.false))

pub can_be-returns-clause-can_be : goal.can_be-returns-clause-can_be
can_be-returns-clause-can_be g t c = λ looks now.
    let tells = c.in_ok-is_there.ensures in
    let made = c.in_ok-source.ensures in
    let some : 0 < c.args.steps = omega arith in
    let same : c.is_some.result ≡ is_some c.in_ok-source.source = cc in
    same ∙ ap is_some (made.source looks now)
    ∙ sym (made_can (is_there c.args.makers.now.targets.now looks) c.args.makers.now.forms.now c.args.steps c.args.taken.now c.args.name.now some
    (sym (tells.there looks (made.looks.narrows looks now)) ∙ c.if-branch.false))

pub can_be-returns-clause-looks : goal.can_be-returns-clause-looks
can_be-returns-clause-looks g t c = looks_on _ _ _ _ _ _ _ _ _ _ _ _ c.in_ok-is_there.ensures.looks c.in_ok-source.ensures.looks

pub can_be-returns-in_err-is_there-clause-fault : goal.can_be-returns-in_err-is_there-clause-fault
can_be-returns-in_err-is_there-clause-fault g t c =
    let makers = c.args.makers.now in
    let refuses = g.T.Tree.refuses c.is_there.new.tree in
    let name = c.args.name.now in
    let leads = IsAskedIn makers.forms.now c.args.steps c.args.taken.now name in
    let tells = c.in_err-is_there.ensures in
    handed_on _ (IsLedFault makers.targets.now refuses leads) c.in_err-is_there.field-0.0 (c.from_residual.ensures).1
    (led_here makers.targets.now refuses leads name (tells.asked refl) (asked_here makers.forms.now c.args.steps c.args.taken.now name) c.in_err-is_there.field-0.0 tells.fault)

pub can_be-returns-in_err-source-clause-fault : goal.can_be-returns-in_err-source-clause-fault
can_be-returns-in_err-source-clause-fault g t c =
    let makers = c.args.makers.now in
    let refuses = g.T.Tree.refuses c.first_that.new.tree in
    let name = c.args.name.now in
    let taken = c.args.taken.now in
    let some : 0 < c.args.steps = omega arith in
    let behind = IsBehind (λ rule. IsAskedIn makers.forms.now (c.args.steps - 1) (rule ∷ taken)) (usable false taken makers.forms.now) name in
    let leads = IsAskedIn makers.forms.now c.args.steps taken name in
    handed_on _ (IsLedFault makers.targets.now refuses leads) c.in_err-source.field-0.0 (c.from_residual-in_err-source.ensures).1
    (led_on makers.targets.now refuses behind leads (λ n. asked_behind makers.forms.now c.args.steps taken name n some) c.in_err-source.field-0.0 c.in_err-source.ensures.fault)

pub can_be-returns-in_err-source-clause-looks : goal.can_be-returns-in_err-source-clause-looks
can_be-returns-in_err-source-clause-looks g t c = looks_on _ _ _ _ _ _ _ _ _ _ _ _ c.in_ok-is_there.ensures.looks c.in_err-source.ensures.looks

-- ---- names of which all are to be

pub all_can_be-loop-name-init : goal.all_can_be-loop-name-init
all_can_be-loop-name-init g t c =
    let start : c.args.names.now ≡ c.into_iter-name-iterator.result = cc in
    record { front = ([], start, λ looks now. refl); looks = looks_none _ _ _ _ }

pub all_can_be-loop-name-preserved : goal.all_can_be-loop-name-preserved
all_can_be-loop-name-preserved g t c =
    let name = c.in-Some.name.now in
    let left = c.next.new.self in
    let inv = c.loop-name.invariant in
    let tells = c.in_ok-can_be.ensures in
    let makers = c.args.makers.now in
    let (before, parted, can) = inv.front in
    record {
      front = (
        before ++ name ∷ [],
        parted ∙ ap (λ (ls : List (List ℕ)). before ++ ls) c.in-Some.ensures.steps ∙ sym (append_assoc before (name ∷ []) left),
        λ looks now.
            all_more (can_be (is_there makers.targets.now looks) makers.forms.now c.args.steps c.args.taken.now) before name
            (can looks (tells.looks.narrows looks now)) (sym (tells.can_be looks now) ∙ c.if-not-branch.false),
      );
      looks = looks_on _ _ _ _ _ _ _ _ _ _ _ _ inv.looks tells.looks;
    }

pub all_can_be-returns-then-not-branch-clause-can_be : goal.all_can_be-returns-then-not-branch-clause-can_be
all_can_be-returns-then-not-branch-clause-can_be g t c = λ looks now.
    let name = c.in-Some.name.now in
    let left = c.next.new.self in
    let tells = c.in_ok-can_be.ensures in
    let makers = c.args.makers.now in
    let (before, parted, can) = c.loop-name.invariant.front in
    let passes = can_be (is_there makers.targets.now looks) makers.forms.now c.args.steps c.args.taken.now in
    let no : passes name ≡ false = sym (tells.can_be looks now) ∙ c.if-not-branch.true in
    sym (ap (list_all passes) (parted ∙ ap (λ (ls : List (List ℕ)). before ++ ls) c.in-Some.ensures.steps)
    ∙ all_left passes before (name ∷ left) (can looks (tells.looks.narrows looks now)) ∙ ap (λ b. b && list_all passes left) no)

pub all_can_be-returns-then-not-branch-clause-looks : goal.all_can_be-returns-then-not-branch-clause-looks
all_can_be-returns-then-not-branch-clause-looks g t c = looks_on _ _ _ _ _ _ _ _ _ _ _ _ c.loop-name.invariant.looks c.in_ok-can_be.ensures.looks

pub all_can_be-returns-clause-can_be : goal.all_can_be-returns-clause-can_be
all_can_be-returns-clause-can_be g t c = λ looks now.
    let makers = c.args.makers.now in
    let (before, parted, can) = c.loop-name.invariant.front in
    let ended : c.loop-name.name-iterator ≡ [] = (c.in-None.ensures.steps).0 in
    sym (ap (list_all (can_be (is_there makers.targets.now looks) makers.forms.now c.args.steps c.args.taken.now))
    (parted ∙ ap (λ (ls : List (List ℕ)). before ++ ls) ended ∙ append-nil before) ∙ can looks now)

pub all_can_be-returns-in_err-can_be-clause-looks : goal.all_can_be-returns-in_err-can_be-clause-looks
all_can_be-returns-in_err-can_be-clause-looks g t c = looks_on _ _ _ _ _ _ _ _ _ _ _ _ c.loop-name.invariant.looks c.in_err-can_be.ensures.looks

pub all_can_be-returns-in_err-can_be-clause-fault : goal.all_can_be-returns-in_err-can_be-clause-fault
all_can_be-returns-in_err-can_be-clause-fault g t c =
    let makers = c.args.makers.now in
    let refuses = g.T.Tree.refuses c.can_be.new.tree in
    let names = c.args.names.now in
    let name = c.in-Some.name.now in
    let asked = IsAskedIn makers.forms.now c.args.steps c.args.taken.now in
    let (before, parted, can) = c.loop-name.invariant.front in
    handed_on _ (IsLedFault makers.targets.now refuses (IsAmong asked names)) c.in_err-can_be.field-0.0 (c.from_residual.ensures).1
    (led_on makers.targets.now refuses (asked name) (IsAmong asked names)
    (λ n leads. record {
      before = before;
      name = name;
      behind = c.next.new.self;
      is = parted ∙ ap (λ (ls : List (List ℕ)). before ++ ls) c.in-Some.ensures.steps;
      lead = leads;
    })
    c.in_err-can_be.field-0.0 c.in_err-can_be.ensures.fault)

-- ---- the first candidate of whose names each can be

pub first_that-loop-number-init : goal.first_that-loop-number-init
first_that-loop-number-init g t c = record { none = λ looks now. refl; looks = looks_none _ _ _ _ }

pub first_that-loop-number-preserved : goal.first_that-loop-number-preserved
first_that-loop-number-preserved g t c =
    let makers = c.args.makers.now in
    let forms = makers.forms.now in
    let taken = c.args.taken.now in
    let name = c.args.name.now in
    let form = c.form-item.result in
    let k = c.loop-number.number in
    let few = c.steps_behind-steps.result in
    let at : slice_get forms k ≡ Some form = slice_get_read forms (length forms) k form refl c.loop-number-test.true c.form-item.is in
    let stem : List ℕ × List ℕ = (c.in-Some.folder.now, c.in-Some.stem.now) in
    let inv = c.loop-number.invariant in
    let tells = c.in_ok-all_can_be.ensures in
    record {
      none = λ looks now.
          let can : ℕ → List ℕ → Bool = λ rule. can_be (is_there makers.targets.now looks) forms c.args.steps (rule ∷ taken) in
          let no : list_all (can form.rule) (source_at form stem).names ≡ false
          = sym (c.steps_behind-steps.ensures.same (is_there makers.targets.now looks) forms form makers.linked at stem (form.rule ∷ taken))
          ∙ ap (λ (s : Source). list_all (can_be (is_there makers.targets.now looks) forms few (form.rule ∷ taken)) s.names) (sym c.in_ok-source.ensures)
          ∙ ap (λ (rules : List ℕ). list_all (can_be (is_there makers.targets.now looks) forms few rules) c.in_ok-source.source.names) (sym (c.deref.ensures.value ∙ c.in_ok-taken.ensures))
          ∙ sym (tells.can_be looks now) ∙ c.if-branch.false in
          passed_more name false taken forms k form c.loop-number-test.true c.form-item.is can (inv.none looks (tells.looks.narrows looks now)) stem (sym c.in-Some.ensures) no;
      looks = looks_on _ _ _ _ _ _ _ _ _ _ _ _ inv.looks tells.looks;
    }

pub first_that-loop-number-preserved-in_default : goal.first_that-loop-number-preserved-in_default
first_that-loop-number-preserved-in_default g t c =
    let makers = c.args.makers.now in
    let inv = c.loop-number.invariant in
    record {
      none = λ looks now.
          unfit_more c.args.name.now false c.args.taken.now makers.forms.now c.loop-number.number c.form-item.result c.loop-number-test.true c.form-item.is
          (λ rule. can_be (is_there makers.targets.now looks) makers.forms.now c.args.steps (rule ∷ c.args.taken.now)) (inv.none looks now) (sym c.in_default.ensures);
      looks = inv.looks;
    }

pub first_that-returns-then-branch-clause-source : goal.first_that-returns-then-branch-clause-source
first_that-returns-then-branch-clause-source g t c = λ looks now.
    let makers = c.args.makers.now in
    let forms = makers.forms.now in
    let taken = c.args.taken.now in
    let name = c.args.name.now in
    let form = c.form-item.result in
    let k = c.loop-number.number in
    let few = c.steps_behind-steps.result in
    let at : slice_get forms k ≡ Some form = slice_get_read forms (length forms) k form refl c.loop-number-test.true c.form-item.is in
    let stem : List ℕ × List ℕ = (c.in-Some.folder.now, c.in-Some.stem.now) in
    let tells = c.in_ok-all_can_be.ensures in
    let can : ℕ → List ℕ → Bool = λ rule. can_be (is_there makers.targets.now looks) forms c.args.steps (rule ∷ taken) in
    let yes : list_all (can form.rule) (source_at form stem).names ≡ true
    = sym (c.steps_behind-steps.ensures.same (is_there makers.targets.now looks) forms form makers.linked at stem (form.rule ∷ taken))
    ∙ ap (λ (s : Source). list_all (can_be (is_there makers.targets.now looks) forms few (form.rule ∷ taken)) s.names) (sym c.in_ok-source.ensures)
    ∙ ap (λ (rules : List ℕ). list_all (can_be (is_there makers.targets.now looks) forms few rules) c.in_ok-source.source.names) (sym (c.deref.ensures.value ∙ c.in_ok-taken.ensures))
    ∙ sym (tells.can_be looks now) ∙ c.if-branch.true in
    ap (λ (s : Source). Some s) c.in_ok-source.ensures
    ∙ sym (taken_first name false taken forms k form c.loop-number-test.true c.form-item.is can
    (c.loop-number.invariant.none looks (tells.looks.narrows looks now)) stem (sym c.in-Some.ensures) yes)

pub first_that-returns-then-branch-clause-looks : goal.first_that-returns-then-branch-clause-looks
first_that-returns-then-branch-clause-looks g t c = looks_on _ _ _ _ _ _ _ _ _ _ _ _ c.loop-number.invariant.looks c.in_ok-all_can_be.ensures.looks

pub first_that-returns-in_err-all_can_be-clause-looks : goal.first_that-returns-in_err-all_can_be-clause-looks
first_that-returns-in_err-all_can_be-clause-looks g t c = looks_on _ _ _ _ _ _ _ _ _ _ _ _ c.loop-number.invariant.looks c.in_err-all_can_be.ensures.looks

pub first_that-returns-in_err-all_can_be-clause-fault : goal.first_that-returns-in_err-all_can_be-clause-fault
first_that-returns-in_err-all_can_be-clause-fault g t c =
    let makers = c.args.makers.now in
    let forms = makers.forms.now in
    let taken = c.args.taken.now in
    let name = c.args.name.now in
    let form = c.form-item.result in
    let refuses = g.T.Tree.refuses c.all_can_be.new.tree in
    let stem : List ℕ × List ℕ = (c.in-Some.folder.now, c.in-Some.stem.now) in
    let few = c.steps_behind-steps.result in
    let asked : List ℕ → List ℕ → List ℕ → Type 0 = λ rules. IsAskedIn forms few rules in
    let behind = IsBehind (λ rule. IsAskedIn forms c.args.steps (rule ∷ taken)) (usable false taken forms) name in
    let met : IsLedFault makers.targets.now refuses (IsAmong (asked (form.rule ∷ taken)) (source_at form stem).names) c.in_err-all_can_be.field-0.0
    = subst (λ (s : Source). IsLedFault makers.targets.now refuses (IsAmong (asked (form.rule ∷ taken)) s.names) c.in_err-all_can_be.field-0.0) c.in_ok-source.ensures
    (subst (λ (rules : List ℕ). IsLedFault makers.targets.now refuses (IsAmong (asked rules) c.in_ok-source.source.names) c.in_err-all_can_be.field-0.0) (c.deref.ensures.value ∙ c.in_ok-taken.ensures)
    c.in_err-all_can_be.ensures.fault) in
    handed_on _ (IsLedFault makers.targets.now refuses behind) c.in_err-all_can_be.field-0.0 (c.from_residual-in_err-all_can_be.ensures).1
    (led_on makers.targets.now refuses (IsAmong (asked (form.rule ∷ taken)) (source_at form stem).names) behind
    (λ n among. record {
      before = _;
      source = source_at form stem;
      behind = _;
      is = candidates_at name false taken forms c.loop-number.number form c.loop-number-test.true c.form-item.is stem (sym c.in-Some.ensures);
      lead = record {
        before = among.before;
        name = among.name;
        behind = among.behind;
        is = among.is;
        lead = c.steps_behind-steps.ensures.asked forms (form.rule ∷ taken) among.name n among.lead;
      };
    })
    c.in_err-all_can_be.field-0.0 met)
