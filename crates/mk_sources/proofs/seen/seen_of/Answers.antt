use Rattle.std.proofs.Common.{◌∙◌, Bool, Option, None, cond, refl, sym, ap, ℕ, subst}
use Rattle.std.specs.FinMap as map
use Rattle.mk_sources.specs.LooksLaws.{looks_on}
use Rattle.mk_nodes.specs.Prerequisites.{inputs_of}
use Rattle.mk_sources.specs.Seen.{IsRuledIn}
use Rattle.mk_sources.proofs.seen.seen_of.Goals as goal

pub returns-clause-seen : goal.returns-clause-seen
returns-clause-seen g c = λ looks now.
    let rules = c.args.rules.now in
    let inputs = inputs_of rules.lines.now (map.get rules.state.now) looks in
    let name = c.args.name.now in
    let time = c.in_ok-look.ensures.stamp looks (c.in_ok-ruled.ensures.looks.narrows looks now)
    ∙ ap (λ (t : Bool). cond t None (looks name)) (c.is_phony-phony.ensures name c.near-own.ensures.lines) in
    let stamp = c.in_ok-stamp.ensures ∙ time in
    record {
      lines_are = c.near-own.ensures.lines;
      stamp = stamp;
      ruled = subst (λ (l : Option ℕ). IsRuledIn inputs name l c.in_ok-ruled.ruled) (c.left_recipe-left.ensures inputs refl (sym stamp) refl)
          (c.in_ok-ruled.ensures.ruled looks now stamp);
    }

pub returns-clause-looks : goal.returns-clause-looks
returns-clause-looks g c = looks_on _ _ _ _ _ _ _ _ _ _ _ _ c.in_ok-look.ensures.looks c.in_ok-ruled.ensures.looks

pub returns-in_err-ruled-clause-looks : goal.returns-in_err-ruled-clause-looks
returns-in_err-ruled-clause-looks g c = looks_on _ _ _ _ _ _ _ _ _ _ _ _ c.in_ok-look.ensures.looks c.in_err-ruled.ensures.looks
