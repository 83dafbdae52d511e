use Rattle.std.proofs.Common.{◌∙◌, ℕ, List, Option, sym}
use Rattle.mk_rule_lines.proofs.ResultLemmas.{if_ok, if_err}
use Rattle.dmk_reading.specs.Definitions.{first_defined}
use Rattle.dmk_reading.specs.Faults.{IsTextFault}
use Rattle.dmk_reading.proofs.MakefileLemmas.{handed_on, own_fault, without_rules, behind_rules, fault_behind}
use Rattle.mk_eval.specs.Output.{World}
use Rattle.mk_nodes.specs.declared.file_look.FileLook.{FileLook}
use Rattle.dmk_reading.proofs.makefile.read_items.Goals as goal

pub returns-in_err-own-clause-fault : goal.returns-in_err-own-clause-fault
returns-in_err-own-clause-fault g c =
    let given = first_defined c.args.profile c.args.definitions.now c.args.environment.now in
    handed_on _ (λ f. (world : World) (looks : List ℕ → Option FileLook) → g.I.Includes.allows c.own_items.new.includes world → g.T.Tree.allows c.own_items.new.tree looks
    → IsTextFault world looks (g.T.Tree.refuses c.own_items.new.tree) c.args.makefiles.now given f)
    c.in_err-own.field-0.0 (c.from_residual.ensures).1
    (λ world looks text now. own_fault world looks c.args.makefiles.now given (g.T.Tree.refuses c.own_items.new.tree) c.in_err-own.field-0.0 (c.in_err-own.ensures.fault world looks text now))

pub returns-then-reads_rules-clause-items : goal.returns-then-reads_rules-clause-items
returns-then-reads_rules-clause-items g c =
    let given = first_defined c.args.profile c.args.definitions.now c.args.environment.now in
    if_ok c.behind_rules.result _ _
    (λ items has world looks text now.
    let (rules, are, whole) = has world text in
    behind_rules world looks c.args.makefiles.now given c.in_ok-own.own.items (sym c.reads_rules.ensures ∙ c.if-reads_rules.true)
    (c.in_ok-own.ensures.items world looks (c.behind_rules.ensures.grows world text) now) rules items.items are whole)
    c.behind_rules.ensures.items

pub returns-then-reads_rules-clause-fault : goal.returns-then-reads_rules-clause-fault
returns-then-reads_rules-clause-fault g c =
    let given = first_defined c.args.profile c.args.definitions.now c.args.environment.now in
    if_err c.behind_rules.result _ _
    (λ f is world looks text now.
    fault_behind world looks c.args.makefiles.now given c.in_ok-own.own.items (g.T.Tree.refuses c.own_items.new.tree) (sym c.reads_rules.ensures ∙ c.if-reads_rules.true)
    (c.in_ok-own.ensures.items world looks (c.behind_rules.ensures.grows world text) now) f (is world text))
    c.behind_rules.ensures.fault

pub returns-else-reads_rules-clause-items : goal.returns-else-reads_rules-clause-items
returns-else-reads_rules-clause-items g c = λ world looks text now.
    let given = first_defined c.args.profile c.args.definitions.now c.args.environment.now in
    without_rules world looks c.args.makefiles.now given c.in_ok-own.own.items (sym c.reads_rules.ensures ∙ c.if-reads_rules.false)
    (c.in_ok-own.ensures.items world looks text now)
