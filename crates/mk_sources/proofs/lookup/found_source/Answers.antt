use Rattle.std.proofs.Common.{◌≡◌, ◌∙◌, false, inl, sym}
use Rattle.std.specs.Prelude.{is_some}
use Rattle.std.specs.FinMap as map
use Rattle.mk_rule_lines.specs.Explicit.{is_phony}
use Rattle.mk_sources.proofs.LookupLemmas.{found_is, no_own}
use Rattle.mk_rule_lines.proofs.ResultLemmas.{if_ok}
use Rattle.mk_sources.proofs.lookup.found_source.Goals as goal

pub returns-clause-source : goal.returns-clause-source
returns-clause-source g c =
    let rules = c.args.rules.now in
    let name = c.args.name.now in
    let none : is_some c.args.own ≡ false = cc in
    let no_phony : is_phony rules.lines.now name ≡ false = sym c.requires.phony ∙ cc in
    if_ok c.source.result _ _
    (λ found is. λ looks now.
    found_is rules.lines.now rules.targets.now rules.named (map.get rules.state.now) looks rules.forms.now rules.steps name c.args.own found rules.all_forms rules.few c.requires.own none no_phony (is looks now))
    c.source.ensures.source

pub returns-clause-unasked : goal.returns-clause-unasked
returns-clause-unasked g c =
    let none : is_some c.args.own ≡ false = cc in
    inl (sym c.requires.phony ∙ cc, sym c.requires.own ∙ no_own c.args.own none)
