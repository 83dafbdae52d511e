use Rattle.std.proofs.Common.{◌≡◌, ◌-◌, ◌+◌, ◌<◌, ◌≤◌, ℕ, Some, None, sym, subst, ◌∙◌, arith}
use Rattle.mk_sources.specs.There.{is_there}
use Rattle.mk_nodes.specs.Chain.{chained, source_in}
use Rattle.mk_sources.specs.LooksLaws.{looks_on}
use Rattle.mk_sources.proofs.ChainLemmas.{source_here, source_kept}
use Rattle.mk_sources.proofs.ChainLaws.{none_at_all}
use Rattle.mk_sources.proofs.chain.shortest.Goals as goal

pub returns-in_default-clause-source : goal.returns-in_default-clause-source
returns-in_default-clause-source g c = λ looks now.
    let makers = c.args.makers.now in
    let there = is_there makers.targets.now looks in
    let tells = c.in_ok-longest.ensures in
    let said = tells.source looks now in
    let is = c.in_default.is in
    let none : chained there makers.forms.now c.args.steps c.args.name.now ≡ None = cc in
    let all : c.args.steps ≤ c.args.steps = omega arith in
    sym (none_at_all there makers.forms.now c.args.steps c.args.steps all c.args.name.now (c.requires.none looks (tells.looks.narrows looks now)) none)

pub returns-in-Some-2-clause-source : goal.returns-in-Some-2-clause-source
returns-in-Some-2-clause-source g c = λ looks now.
    let makers = c.args.makers.now in
    let there = is_there makers.targets.now looks in
    let name = c.args.name.now in
    let fewer = c.loop-fewer.fewer in
    let tells = c.in_ok-source.ensures in
    let said = tells.source looks now in
    let is = c.in-Some-2.is in
    let here : chained there makers.forms.now fewer name ≡ Some c.in-Some-2.source = cc in
    let some : 0 < fewer = omega arith in
    let few : fewer ≤ c.args.steps = omega arith in
    sym (source_kept there makers.forms.now fewer c.args.steps few name c.in-Some-2.source
    (source_here there makers.forms.now fewer name some (c.loop-fewer.invariant.none looks (tells.looks.narrows looks now)) ∙ here))

pub loop-fewer-preserved : goal.loop-fewer-preserved
loop-fewer-preserved g c =
    let makers = c.args.makers.now in
    let name = c.args.name.now in
    let fewer = c.loop-fewer.fewer in
    let inv = c.loop-fewer.invariant in
    let tells = c.in_ok-source.ensures in
    let some : 0 < fewer = omega arith in
    let back : fewer ≡ fewer + 1 - 1 = omega arith in
    record {
      none = λ looks now.
          let there = is_there makers.targets.now looks in
          let said = tells.source looks now in
          let is = c.in_default-2.is in
          let lacks : chained there makers.forms.now fewer name ≡ None = cc in
          subst (λ (n : ℕ). source_in there makers.forms.now n name ≡ None) back
          (source_here there makers.forms.now fewer name some (inv.none looks (tells.looks.narrows looks now)) ∙ lacks);
      longest = λ looks now. inv.longest looks (tells.looks.narrows looks now);
      looks = looks_on _ _ _ _ _ _ _ _ _ _ _ _ inv.looks tells.looks;
    }

pub returns-clause-source : goal.returns-clause-source
returns-clause-source g c = λ looks now.
    let makers = c.args.makers.now in
    let there = is_there makers.targets.now looks in
    let name = c.args.name.now in
    let inv = c.loop-fewer.invariant in
    let same : c.loop-fewer.fewer ≡ c.args.steps = omega arith in
    inv.longest looks now
    ∙ sym (source_here there makers.forms.now c.args.steps name c.requires.some
    (subst (λ (n : ℕ). source_in there makers.forms.now (n - 1) name ≡ None) same (inv.none looks now)))
