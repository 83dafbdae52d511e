use Rattle.std.proofs.Common.{◌≡◌, ℕ, Bool, List, Option, true, false, sym, ap, subst, ◌∙◌}
use Rattle.std.specs.FinMap as map
use Rattle.std.specs.Prelude.{codes, option_to_list}
use Rattle.mk_nodes.specs.Chain.{steps_of}
use Rattle.mk_rule_lines.specs.Explicit.{explicit_targets}
use Rattle.mk_makefile.specs.declared.form.Form.{Form}
use Rattle.mk_nodes.specs.Links.{AreLinks}
use Rattle.mk_rules.specs.Faults.{IsGraphFault}
use Rattle.mk_makefile.specs.Forms.{forms_of}
use Rattle.mk_rules.specs.Found.{AreFound, IsFindingFault}
use Rattle.mk_settings.specs.Goals.{goals_of, IsGoalFault}
use Rattle.mk_nodes.specs.Prerequisites.{inputs_of, default_of}
use Rattle.mk_rule_lines.specs.Rules.{has, places, recipe_places, targets_by, suffixes_of}
use Rattle.mk_makefile.specs.Table.{named_at}
use Rattle.mk_rule_lines.specs.declared.fault.RuleFault.{RuleFault}
use Rattle.mk_rule_lines.specs.declared.rule_line.RuleLine.{RuleLine}
use Rattle.mk_rules.proofs.LookLemmas.{asked_none}
use Rattle.mk_rules.proofs.FaultLemmas.{no_goal, not_found}
use Rattle.mk_rule_lines.proofs.LineLemmas.{handed_on}
use Rattle.mk_rule_lines.proofs.ResultLemmas.{if_ok, if_err}
use Rattle.mk_nodes.specs.declared.file_look.FileLook.{FileLook}
use Rattle.mk_rules.proofs.building.reached.Goals as goal

pub returns-clause-found : goal.returns-clause-found
returns-clause-found g c =
    let lines = c.args.makefile.now.lines.items in
    let entries = map.get c.args.state.now in
    let goals = c.in_ok-goals.goals in
    let goals_are : goals ≡ goals_of lines c.args.goals = c.in_ok-goals.ensures.goals ∙ ap (λ (ls : List RuleLine). goals_of ls c.args.goals) c.deref.ensures.value in
    if_ok c.numbered_names.result _ _
    (λ n found looks now.
    subst (λ (gs : List (List ℕ)). AreFound (inputs_of lines entries looks) gs n) goals_are
    (subst (λ (ls : List RuleLine). AreFound (inputs_of ls entries looks) goals n) c.deref-4.ensures.value (found looks now)))
    c.numbered_names.ensures.found

pub returns-clause-fault : goal.returns-clause-fault
returns-clause-fault g c =
    let lines = c.args.makefile.now.lines.items in
    let entries = map.get c.args.state.now in
    let refuses = g.T.Tree.refuses c.numbered_names.new.tree in
    let goals = c.in_ok-goals.goals in
    let goals_are : goals ≡ goals_of lines c.args.goals = c.in_ok-goals.ensures.goals ∙ ap (λ (ls : List RuleLine). goals_of ls c.args.goals) c.deref.ensures.value in
    if_err c.numbered_names.result _ _
    (λ f meets looks now.
    not_found (inputs_of lines entries looks) refuses c.args.goals c.args.limit goals goals_are f
    (subst (λ (ls : List RuleLine). IsFindingFault (inputs_of ls entries looks) refuses goals c.args.limit f) c.deref-4.ensures.value (meets looks now)))
    c.numbered_names.ensures.fault

pub returns-in_err-goals-clause-fault : goal.returns-in_err-goals-clause-fault
returns-in_err-goals-clause-fault g c =
    let lines = c.args.makefile.now.lines.items in
    let entries = map.get c.args.state.now in
    let refuses = g.T.Tree.refuses c.args.tree.now in
    let f = c.in_err-goals.field-0.0 in
    handed_on _
    (λ (e : RuleFault). (looks : List ℕ → Option FileLook) → g.T.Tree.allows c.args.tree.now looks
    → IsGraphFault (inputs_of lines entries looks) refuses c.args.goals c.args.limit e)
    f (c.from_residual.ensures).1
    (λ looks now. no_goal (inputs_of lines entries looks) refuses c.args.goals c.args.limit f
    (subst (λ (ls : List RuleLine). IsGoalFault ls c.args.goals f) c.deref.ensures.value c.in_err-goals.ensures.fault))

pub invariant_of-rules : goal.invariant_of-rules
invariant_of-rules g c =
    let m = c.args.makefile.now in
    let read = sym c.deref-4.ensures.value in
    record {
      named = λ name. subst (λ (ls : List RuleLine). (named_at m.targets name).lines ≡ places (λ l. has name (targets_by false (suffixes_of ls) l)) 0 ls) read (m.table.named name);
      recipes = λ name. subst (λ (ls : List RuleLine). option_to_list (named_at m.targets name).recipe ≡ recipe_places (targets_by false (suffixes_of ls)) 0 ls name) read (m.table.recipe name);
      all_forms = subst (λ (ls : List RuleLine). c.deref-5.result.now ≡ forms_of (suffixes_of ls) ls) read (c.deref-5.ensures.value ∙ m.all_forms);
      few = c.steps_of-steps.ensures ∙ ap steps_of (c.deref-2.ensures.value ∙ sym c.deref-4.ensures.value);
      linked =
          subst (λ (ls : List Bool). AreLinks c.deref-5.result.now ls) (sym c.deref-6.ensures.value)
          (subst (λ (fs : List Form). AreLinks fs c.in_ok-links.links.items) (c.deref-3.ensures.value ∙ sym c.deref-5.ensures.value) c.in_ok-links.ensures);
      left_over = c.default_of.ensures ∙ ap default_of (c.deref-7.ensures.value ∙ sym c.deref-4.ensures.value);
    }

pub returns-in_err-goals-clause-asked : goal.returns-in_err-goals-clause-asked
returns-in_err-goals-clause-asked g c = asked_none (λ _. true) (g.T.Tree.asked c.args.tree.now)

pub default_of-requires : goal.default_of-requires
default_of-requires g c =
    c.args.makefile.now.table.recipe (codes ".DEFAULT") ∙ ap (λ (ls : List RuleLine). recipe_places (explicit_targets ls) 0 ls (codes ".DEFAULT")) (sym c.deref-7.ensures.value)
