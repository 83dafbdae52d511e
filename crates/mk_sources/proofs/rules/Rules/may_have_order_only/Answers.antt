use Rattle.std.proofs.Common.{◌≡◌, ◌+◌, ◌∷◌, ◌∙◌, ℕ, List, [], drop, get_or, add-one, refl, sym, ap}
use Rattle.std.proofs.Math.Seq.{drop-cons}
use Rattle.std.proofs.lemmas.List.{drop_all}
use Rattle.std.specs.List.{flat_map}
use Rattle.mk_rule_lines.specs.Explicit.{explicit_targets, order_only_in}
use Rattle.mk_rule_lines.specs.Rules.{has}
use Rattle.mk_rule_lines.specs.declared.rule_line.RuleLine.{RuleLine}
use Rattle.mk_rule_lines.proofs.ExplicitLemmas.{names_at, names-places}
use Rattle.mk_sources.proofs.OrderOnlyLemmas.{none_passed}
use Rattle.mk_sources.proofs.rules.Rules.may_have_order_only.Goals as goal

pub loop-number-preserved : goal.loop-number-preserved
loop-number-preserved c =
    let lines = c.args.self.now.lines.now in
    let numbers = c.args.numbers.now in
    let i = c.loop-number.number-index in
    let at : drop i numbers ≡ get_or numbers i 0 ∷ drop (i + 1) numbers = drop-cons numbers i 0 c.loop-number-test.true ∙ rw add-one refl in
    none_passed lines (get_or numbers i 0) (drop (i + 1) numbers) _ (c.may_have_bar_at.ensures c.if-may_have_bar_at.false)
    (ap (flat_map (names_at order_only_in lines)) (sym at) ∙ c.loop-number.invariant)

pub returns : goal.returns
returns c = λ no name is.
    let lines = c.args.self.now.lines.now in
    let numbers = c.args.numbers.now in
    let of = λ (ns : List ℕ). flat_map (names_at order_only_in lines) ns in
    sym (names-places order_only_in (λ (l : RuleLine). has name (explicit_targets lines l)) [] lines) ∙ ap of (sym is) ∙ sym c.loop-number.invariant
    ∙ ap of (drop_all c.loop-number.number-index numbers c.loop-number-test.false)
