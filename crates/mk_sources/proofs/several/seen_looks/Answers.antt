use Rattle.std.proofs.Common.{◌≡◌, ◌∙◌, ◌++◌, [], ◌∷◌, true, List, ℕ, None, cond, map, refl, sym, ap, subst, append-nil, append_assoc}
use Rattle.mk_rule_lines.proofs.LineLemmas.{handed_on}
use Rattle.mk_rule_lines.specs.Rules.{has}
use Rattle.mk_sources.proofs.AmongLemmas.{has_first, has_later}
use Rattle.mk_sources.proofs.SeveralLemmas.{others_fault}
use Rattle.mk_sources.specs.Asked.{IsOthersFault}
use Rattle.mk_sources.specs.LooksLaws.{looks_none, looks_on}
use Rattle.mk_nodes.specs.Prerequisites.{seen_looks}
use Rattle.mk_sources.proofs.several.seen_looks.Goals as goal

pub loop-name-init : goal.loop-name-init
loop-name-init g c =
    let start : c.args.names.now ≡ c.into_iter-name-iterator.result = cc in
    record {
      so = λ looks now. ap (λ fs. fs ++ map (seen_looks c.args.rules.now.lines.now looks) c.into_iter-name-iterator.result) c.none-found.ensures
          ∙ ap (λ (ls : List (List ℕ)). map (seen_looks c.args.rules.now.lines.now looks) ls) (sym start);
      within = λ n is. subst (λ (ls : List (List ℕ)). has n ls ≡ true) (sym start) is;
      looks = looks_none _ _ _ _;
    }

pub loop-name-preserved : goal.loop-name-preserved
loop-name-preserved g c =
    let rules = c.args.rules.now in
    let name = c.in-Some.name.now in
    let left = c.next.new.self in
    let inv = c.loop-name.invariant in
    let tells = c.in_ok-seen.ensures in
    record {
      so = λ looks now.
          let seen = seen_looks rules.lines.now looks in
          let this = tells.stamp looks now ∙ ap (λ b. cond b None (looks name)) (c.is_phony-phony.ensures name c.named.ensures.lines) in
          ap (λ fs. fs ++ map seen left) (c.in_ok-push.ensures ∙ ap (λ s. c.loop-name.found ++ s ∷ []) this)
          ∙ append_assoc c.loop-name.found (seen name ∷ []) (map seen left)
          ∙ subst (λ (ls : List (List ℕ)). c.loop-name.found ++ map seen ls ≡ map seen c.args.names.now) c.in-Some.ensures.steps
          (inv.so looks (tells.looks.narrows looks now));
      within = λ n is. inv.within n (subst (λ (ls : List (List ℕ)). has n ls ≡ true) (sym c.in-Some.ensures.steps) (has_later n name left is));
      looks = looks_on _ _ _ _ _ _ _ _ _ _ _ _ inv.looks tells.looks;
    }

pub returns-clause-seen : goal.returns-clause-seen
returns-clause-seen g c = λ looks now.
    let seen = seen_looks c.args.rules.now.lines.now looks in
    let ended : c.loop-name.name-iterator ≡ [] = (c.in-None.ensures.steps).0 in
    sym (append-nil c.loop-name.found)
    ∙ subst (λ (ls : List (List ℕ)). c.loop-name.found ++ map seen ls ≡ map seen c.args.names.now) ended (c.loop-name.invariant.so looks now)

pub returns-in_err-seen-clause-looks : goal.returns-in_err-seen-clause-looks
returns-in_err-seen-clause-looks g c = looks_on _ _ _ _ _ _ _ _ _ _ _ _ c.loop-name.invariant.looks c.in_err-seen.ensures.looks

pub returns-in_err-push-clause-looks : goal.returns-in_err-push-clause-looks
returns-in_err-push-clause-looks g c = looks_on _ _ _ _ _ _ _ _ _ _ _ _ c.loop-name.invariant.looks c.in_ok-seen.ensures.looks

pub returns-in_err-seen-clause-fault : goal.returns-in_err-seen-clause-fault
returns-in_err-seen-clause-fault g c =
    let rules = c.args.rules.now in
    let name = c.in-Some.name.now in
    let refuses = g.T.Tree.refuses c.seen_stamp.new.tree in
    let met = c.in_err-seen.ensures in
    let f = c.in_err-seen.field-0.0 in
    let among = c.loop-name.invariant.within name (subst (λ (ls : List (List ℕ)). has name ls ≡ true) (sym c.in-Some.ensures.steps) (has_first name c.next.new.self)) in
    handed_on _ (IsOthersFault refuses rules.lines.now c.args.names.now) f (c.from_residual.ensures).1
    (others_fault refuses rules.lines.now c.args.names.now name among (sym (c.is_phony-phony.ensures name c.named.ensures.lines) ∙ met.asked refl) f met.fault)
