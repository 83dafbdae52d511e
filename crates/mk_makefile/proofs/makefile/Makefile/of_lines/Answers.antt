use Rattle.std.proofs.Common.{◌≡◌, ◌≤◌, ℕ, List, length, true, false, ap, subst, ◌∙◌}
use Rattle.mk_makefile.specs.Doubles.{AreApart, IsKindsFault}
use Rattle.mk_makefile.specs.Forms.{forms_of}
use Rattle.mk_rule_lines.specs.Rules.{suffixes_of, targets_by, recipe_places}
use Rattle.mk_makefile.specs.Supported.{AreSupported}
use Rattle.mk_makefile.specs.Table.{IsTable}
use Rattle.mk_rule_lines.specs.Pools.{IsPoolFault}
use Rattle.mk_makefile.proofs.TakenLemmas.{one_recipe_each, of_same, kinds_fault, pool_fault}
use Rattle.mk_rule_lines.proofs.LineLemmas.{handed_on}
use Rattle.mk_makefile.specs.Taken.{IsTakingFault}
use Rattle.mk_rule_lines.specs.declared.rule_line.RuleLine.{RuleLine}
use Rattle.mk_makefile.proofs.makefile.Makefile.of_lines.Goals as goal

pub invariant_of-result : goal.invariant_of-result
invariant_of-result c =
    let lines = c.args.lines.items in
    let suffixes = c.in_ok-suffixes.suffixes in
    let targets = c.in_ok-targets.targets in
    let forms = c.in_ok-forms.forms.items in
    let same : suffixes ≡ suffixes_of lines = c.in_ok-suffixes.ensures ∙ ap suffixes_of c.deref-3.ensures.value in
    let table = of_same (λ ss ls. IsTable (targets_by false ss) ls targets) suffixes c.deref-4.result.now lines same c.deref-4.ensures.value c.in_ok-targets.ensures.table in
    record {
      suffixes_are = same;
      table = table;
      all_forms = of_same (λ ss ls. forms ≡ forms_of ss ls) suffixes c.deref-5.result.now lines same c.deref-5.ensures.value c.in_ok-forms.ensures.forms;
      taken = record {
        supported = subst AreSupported c.deref.ensures.value c.in_ok-check_lines.ensures.supported;
        apart = subst AreApart c.deref-2.ensures.value c.in_ok-check_kinds.ensures.apart;
        recipes = one_recipe_each lines targets table
            (of_same (λ ss ls. (name : List ℕ) → length (recipe_places (targets_by true ss) 0 ls name) ≤ 1) suffixes c.deref-5.result.now lines same c.deref-5.ensures.value c.in_ok-forms.ensures.recipes);
      };
    }

pub returns-in_err-check_kinds-clause-fault : goal.returns-in_err-check_kinds-clause-fault
returns-in_err-check_kinds-clause-fault c =
    let f = c.in_err-check_kinds.field-0.0 in
    handed_on _ (IsTakingFault c.args.lines.items) f (c.from_residual-in_err-check_kinds.ensures).1
    (kinds_fault c.args.lines.items f (subst (λ (ls : List RuleLine). IsKindsFault ls f) c.deref-2.ensures.value c.in_err-check_kinds.ensures.fault))

pub returns-in_err-check_pools-clause-fault : goal.returns-in_err-check_pools-clause-fault
returns-in_err-check_pools-clause-fault c =
    let f = c.in_err-check_pools.field-0.0 in
    handed_on _ (IsTakingFault c.args.lines.items) f (c.from_residual-in_err-check_pools.ensures).1
    (pool_fault c.args.lines.items f (subst (λ (ls : List RuleLine). IsPoolFault ls f) c.deref-6.ensures.value c.in_err-check_pools.ensures.err))
