use Rattle.std.proofs.Common.{◌≡◌, ◌∙◌, true, false, List, ℕ, sym, ap, subst}
use Rattle.std.specs.List.{list_any}
use Rattle.mk_names.specs.Names.{has_name}
use Rattle.mk_rule_lines.specs.Rules.{has}
use Rattle.mk_makefile.proofs.DoubleLemmas.{first_among, later_among, left_among, chosen_double}
use Rattle.mk_makefile.proofs.doubles.target_among.Goals as goal

pub loop-target-preserved : goal.loop-target-preserved
loop-target-preserved c =
    let names = c.args.names.now in
    let target = c.in-Some.target.now in
    let left = c.next.new.self in
    let fails : has_name names target ≡ false = sym c.number_of.ensures.none ∙ sym c.is_some.ensures ∙ c.if-is_some.false in
    record {
      left = left_among (has_name names) target left _ fails (ap (list_any (has_name names)) (sym c.in-Some.ensures.steps) ∙ c.loop-target.invariant.left);
      within = λ n is. c.loop-target.invariant.within n (subst (λ (ls : List (List ℕ)). has n ls ≡ true) (sym c.in-Some.ensures.steps) (later_among n target left is));
    }

pub returns-then-is_some : goal.returns-then-is_some
returns-then-is_some c =
    let names = c.args.names.now in
    let line = c.args.line.now in
    let target = c.in-Some.target.now in
    let left = c.next.new.self in
    let among = c.loop-target.invariant.within target
    (subst (λ (ls : List (List ℕ)). has target ls ≡ true) (sym c.in-Some.ensures.steps) (first_among target left)) in
    (ap (has target) (chosen_double line c.if-not-line.false) ∙ among, sym c.number_of.ensures.none ∙ sym c.is_some.ensures ∙ c.if-is_some.true)
