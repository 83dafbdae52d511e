use Rattle.std.proofs.Common.{◌≡◌, ◌++◌, ◌∷◌, ◌&&◌, map, List, ℕ, [], false, refl, sym, ap, subst, ◌∙◌}
use Rattle.std.specs.List.{list_all}
use Rattle.std.proofs.lemmas.List.{append_assoc, append-nil, map-append}
use Rattle.mk_rule_lines.proofs.LineLemmas.{handed_on}
use Rattle.mk_makefile.specs.Source.{with_stem}
use Rattle.mk_makefile.specs.Table.{is_named, named_at}
use Rattle.mk_sources.specs.There.{is_there}
use Rattle.mk_sources.specs.Looks.{IsLookFault}
use Rattle.mk_sources.specs.LooksLaws.{looks_none, looks_on}
use Rattle.mk_sources.specs.Source.{IsAllFault}
use Rattle.mk_sources.proofs.SourceLemmas.{all_more, all_left, first_fault}
use Rattle.mk_sources.proofs.source.all_there.Goals as goal

pub loop-pattern-init : goal.loop-pattern-init
loop-pattern-init g c =
    let start : c.args.form.now.prerequisites ≡ c.into_iter-pattern-iterator.result = cc in
    record { front = ([], start, λ looks now. refl); looks = looks_none _ _ _ _ }

pub loop-pattern-preserved : goal.loop-pattern-preserved
loop-pattern-preserved g c =
    let pattern = c.in-Some.pattern.now in
    let left = c.next.new.self in
    let inv = c.loop-pattern.invariant in
    let tells = c.in_ok-is_there.ensures in
    let with = with_stem c.args.folder.now c.args.stem.now in
    let (before, parted, there) = inv.front in
    let name_is : c.deref.result.now ≡ with pattern = c.deref.ensures.value ∙ c.in_ok-set_name.ensures in
    record {
      front = (
        before ++ pattern ∷ [],
        parted ∙ ap (λ (ls : List (List ℕ)). before ++ ls) c.in-Some.ensures.steps ∙ sym (append_assoc before (pattern ∷ []) left),
        λ looks now.
            ap (list_all (is_there c.args.targets.now looks)) (map-append with before (pattern ∷ []))
            ∙ all_more (is_there c.args.targets.now looks) (map with before) (with pattern) (there looks (tells.looks.narrows looks now))
            (ap (is_there c.args.targets.now looks) (sym name_is) ∙ sym (tells.there looks now) ∙ c.if-not-branch.false),
      );
      looks = looks_on _ _ _ _ _ _ _ _ _ _ _ _ inv.looks tells.looks;
    }

-- one that isn't there, behind some that are
pub returns-then-not-branch-clause-there : goal.returns-then-not-branch-clause-there
returns-then-not-branch-clause-there g c = λ looks now.
    let pattern = c.in-Some.pattern.now in
    let left = c.next.new.self in
    let tells = c.in_ok-is_there.ensures in
    let with = with_stem c.args.folder.now c.args.stem.now in
    let (before, parted, there) = c.loop-pattern.invariant.front in
    let passes = is_there c.args.targets.now looks in
    let name_is : c.deref.result.now ≡ with pattern = c.deref.ensures.value ∙ c.in_ok-set_name.ensures in
    let no : passes (with pattern) ≡ false = ap passes (sym name_is) ∙ sym (tells.there looks now) ∙ c.if-not-branch.true in
    sym (ap (λ ps. list_all passes (map with ps)) (parted ∙ ap (λ (ls : List (List ℕ)). before ++ ls) c.in-Some.ensures.steps)
    ∙ ap (list_all passes) (map-append with before (pattern ∷ left))
    ∙ all_left passes (map with before) (with pattern ∷ map with left) (there looks (tells.looks.narrows looks now)) ∙ ap (λ b. b && list_all passes (map with left)) no)

pub returns-then-not-branch-clause-looks : goal.returns-then-not-branch-clause-looks
returns-then-not-branch-clause-looks g c = looks_on _ _ _ _ _ _ _ _ _ _ _ _ c.loop-pattern.invariant.looks c.in_ok-is_there.ensures.looks

pub returns-clause-there : goal.returns-clause-there
returns-clause-there g c = λ looks now.
    let (before, parted, there) = c.loop-pattern.invariant.front in
    let ended : c.loop-pattern.pattern-iterator ≡ [] = (c.in-None.ensures.steps).0 in
    let with = with_stem c.args.folder.now c.args.stem.now in
    sym (ap (λ ps. list_all (is_there c.args.targets.now looks) (map with ps)) (parted ∙ ap (λ (ls : List (List ℕ)). before ++ ls) ended ∙ append-nil before) ∙ there looks now)

pub returns-in_err-is_there-clause-looks : goal.returns-in_err-is_there-clause-looks
returns-in_err-is_there-clause-looks g c = looks_on _ _ _ _ _ _ _ _ _ _ _ _ c.loop-pattern.invariant.looks c.in_err-is_there.ensures.looks

pub returns-in_err-is_there-clause-fault : goal.returns-in_err-is_there-clause-fault
returns-in_err-is_there-clause-fault g c =
    let targets = c.args.targets.now in
    let allowed = g.T.Tree.allows c.is_there.new.tree in
    let refuses = g.T.Tree.refuses c.is_there.new.tree in
    let pattern = c.in-Some.pattern.now in
    let left = c.next.new.self in
    let with = with_stem c.args.folder.now c.args.stem.now in
    let fault = c.in_err-is_there.field-0.0 in
    let tells = c.in_err-is_there.ensures in
    let (before, parted, there) = c.loop-pattern.invariant.front in
    let name_is : c.deref.result.now ≡ with pattern = c.deref.ensures.value ∙ c.in_ok-set_name.ensures in
    let whole : map with c.args.form.now.prerequisites ≡ map with before ++ with pattern ∷ map with left
    = ap (map with) (parted ∙ ap (λ (ls : List (List ℕ)). before ++ ls) c.in-Some.ensures.steps) ∙ map-append with before (pattern ∷ left) in
    handed_on _ (IsAllFault targets allowed refuses (map with c.args.form.now.prerequisites)) fault (c.from_residual-in_err-is_there.ensures).1
    (first_fault targets allowed refuses (map with c.args.form.now.prerequisites) (map with before) (map with left) (with pattern) whole
    (subst (λ n. is_named (named_at targets n) ≡ false) name_is (tells.asked refl)) (λ looks now. there looks (tells.looks.narrows looks now)) fault
    (subst (λ n. IsLookFault refuses n fault) name_is tells.fault))
