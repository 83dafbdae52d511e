use Rattle.std.proofs.Common.{arith, ◌≡◌, ◌∙◌, List, ℕ, length, sym, ap, subst}
use Rattle.std.specs.List.{AllWithin}
use Rattle.std.proofs.lemmas.Bool.Decides.{nat_tests}
use Rattle.std.proofs.lemmas.List.Elements.{All-from_all_within}
use Rattle.mk_names.specs.Names.{has_name}
use Rattle.mk_makefile.specs.Kinded.{double_targets, all_single_targets}
use Rattle.mk_rule_lines.specs.Rules.{has}
use Rattle.mk_makefile.proofs.DoubleLemmas.{IsFree, are_apart, both_kinds}
use Rattle.mk_makefile.proofs.doubles.check_kinds.Goals as goal

pub returns-in-Some-clause-fault : goal.returns-in-Some-clause-fault
returns-in-Some-clause-fault c =
    let lines = c.args.lines.now in
    let line = c.line-item.result in
    let target = c.in-Some.target.now in
    let same = c.in_ok-name.ensures.ok in
    both_kinds lines c.loop-line.line-index line c.in_ok-name.name c.loop-line-test.true c.line-item.is
    (ap (λ (n : List ℕ). has n (double_targets line)) same ∙ c.in-Some.ensures.0)
    (ap (has_name (all_single_targets lines)) same ∙ ap (λ (ns : List (List ℕ)). has_name ns target) (sym c.in_ok-names.ensures) ∙ c.in-Some.ensures.1)

pub returns-clause-apart : goal.returns-clause-apart
returns-clause-apart c =
    let lines = c.args.lines.now in
    let i = c.loop-line.line-index in
    let past = c.loop-line-test.false in
    let auto = c.loop-line.auto.line-index-end in
    let end : i ≡ length lines = grind (arith, nat_tests) in
    are_apart lines (All-from_all_within (IsFree lines) lines (subst (AllWithin (IsFree lines) lines 0) end c.loop-line.invariant))
