use Rattle.std.proofs.Common.{ℕ, List, ◌++◌, sym, ap, subst, ◌∙◌}
use Rattle.std.specs.FinMap as map
use Rattle.mk_rule_lines.specs.Explicit.{explicit_of}
use Rattle.mk_rule_lines.proofs.LineLemmas.{handed_on}
use Rattle.mk_rule_lines.proofs.ResultLemmas.{if_ok, if_err}
use Rattle.mk_nodes.specs.Hidden.{IsNamesFault}
use Rattle.mk_edges.specs.Known.{IsKnown}
use Rattle.mk_sources.specs.Asked.{IsLookUpFault}
use Rattle.mk_sources.specs.Looks.{Looks, and_this}
use Rattle.mk_sources.specs.LooksLaws.{looks_on}
use Rattle.mk_nodes.specs.Prerequisites.{inputs_of, is_node, hidden_in, prerequisites_of}
use Rattle.mk_rules.specs.Row.{named}
use Rattle.mk_sources.specs.Seen.{made_in}
use Rattle.mk_rules.specs.Completed.{IsNumberedAs}
use Rattle.mk_rule_lines.proofs.ResultLemmas.{on_ok}
use Rattle.mk_rules.proofs.FinderLemmas.{on_ok_if, all_are, known_is, hidden_look}
use Rattle.mk_rules.proofs.finder.look_up.Goals as goal

pub seen_of-requires : goal.seen_of-requires
seen_of-requires g c = subst (λ (n : List ℕ). g.T.Tree.firsts c.args.tree.now n → ⊥) (sym c.name-name.ensures) c.requires.unasked

pub numbered-requires : goal.numbered-requires
numbered-requires g c = record {
  noted = λ looks now. rw c.entry_of-entry.ensures.marks (c.requires.noted looks (c.in_ok-seen.ensures.looks.narrows looks now));
  distinct = c.requires.distinct;
}

pub returns-clause-names : goal.returns-clause-names
returns-clause-names g c = on_ok c.numbered.result _ _ (λ is. is.names_are) c.numbered.ensures.row

pub returns-clause-numbers : goal.returns-clause-numbers
returns-clause-numbers g c = on_ok c.numbered.result _ _ (λ is. is.within) c.numbered.ensures.row

pub returns-clause-prerequisites : goal.returns-clause-prerequisites
returns-clause-prerequisites g c =
    let rules = c.args.rules.now in
    let name = c.name-name.result.now in
    on_ok_if c.numbered.result _ _
    (λ node are looks now.
    let inputs = inputs_of rules.lines.now (map.get rules.state.now) looks in
    let row = named c.numbered.new.names c.numbered.new.notes.row in
    let seen = c.in_ok-seen.seen in
    let is = c.in_ok-seen.ensures.seen looks (c.numbered.ensures.looks.narrows looks now) in
    all_are inputs name seen is row node
    (subst (λ (h : List (List ℕ)). IsNumberedAs (is_node inputs) seen (made_in seen.ruled.given ++ explicit_of rules.lines.now name) h row node)
    (ap hidden_in c.entry_of-entry.ensures.entry) (are looks now name is.lines_are))
    ∙ ap (prerequisites_of inputs) c.name-name.ensures)
    c.numbered.ensures.prerequisites

pub returns-clause-node : goal.returns-clause-node
returns-clause-node g c =
    let rules = c.args.rules.now in
    let name = c.name-name.result.now in
    if_ok c.numbered.result _ _
    (λ node are looks now.
    let inputs = inputs_of rules.lines.now (map.get rules.state.now) looks in
    let row = named c.numbered.new.names c.numbered.new.notes.row in
    let seen = c.in_ok-seen.seen in
    let is = c.in_ok-seen.ensures.seen looks (c.numbered.ensures.looks.narrows looks now) in
    subst (λ (n : List ℕ). IsKnown inputs n node) c.name-name.ensures
    (known_is inputs name seen is row node
    (subst (λ (h : List (List ℕ)). IsNumberedAs (is_node inputs) seen (made_in seen.ruled.given ++ explicit_of rules.lines.now name) h row node)
    (ap hidden_in c.entry_of-entry.ensures.entry) (are looks now name is.lines_are))))
    c.numbered.ensures.prerequisites

pub returns-clause-looks : goal.returns-clause-looks
returns-clause-looks g c =
    let old = c.args.tree.now in
    let new = c.numbered.new.tree in
    subst (λ (n : List ℕ). Looks (g.T.Tree.allows old) (g.T.Tree.allows new) (g.T.Tree.refuses old) (g.T.Tree.refuses new) (g.T.Tree.asked old) (g.T.Tree.asked new) (and_this n (g.T.Tree.firsts old)) (g.T.Tree.firsts new)) c.name-name.ensures
    (looks_on _ _ _ _ _ _ _ _ _ _ _ _ c.in_ok-seen.ensures.looks c.numbered.ensures.looks)

pub returns-in_err-seen-clause-looks : goal.returns-in_err-seen-clause-looks
returns-in_err-seen-clause-looks g c =
    let old = c.args.tree.now in
    let new = c.seen_of.new.tree in
    subst (λ (n : List ℕ). Looks (g.T.Tree.allows old) (g.T.Tree.allows new) (g.T.Tree.refuses old) (g.T.Tree.refuses new) (g.T.Tree.asked old) (g.T.Tree.asked new) (and_this n (g.T.Tree.firsts old)) (g.T.Tree.firsts new)) c.name-name.ensures
    c.in_err-seen.ensures.looks

pub returns-clause-fault : goal.returns-clause-fault
returns-clause-fault g c =
    let rules = c.args.rules.now in
    let entries = map.get rules.state.now in
    let allowed = g.T.Tree.allows c.numbered.new.tree in
    let refuses = g.T.Tree.refuses c.numbered.new.tree in
    if_err c.numbered.result _ _
    (λ f meets.
    subst (λ (n : List ℕ). IsLookUpFault rules.targets.now allowed refuses rules.forms.now rules.steps rules.lines.now entries n f) c.name-name.ensures
    (hidden_look rules.targets.now allowed refuses rules.forms.now rules.steps rules.lines.now c.name-name.result.now entries f
    (subst (λ (h : List (List ℕ)). IsNamesFault refuses h f) (ap hidden_in c.entry_of-entry.ensures.entry) meets)))
    c.numbered.ensures.fault

pub returns-in_err-seen-clause-fault : goal.returns-in_err-seen-clause-fault
returns-in_err-seen-clause-fault g c =
    let rules = c.args.rules.now in
    let entries = map.get rules.state.now in
    let allowed = g.T.Tree.allows c.seen_of.new.tree in
    let refuses = g.T.Tree.refuses c.seen_of.new.tree in
    handed_on _ (λ f. IsLookUpFault rules.targets.now allowed refuses rules.forms.now rules.steps rules.lines.now entries _ f) c.in_err-seen.field-0.0
    (c.from_residual.ensures).1
    (subst (λ (n : List ℕ). IsLookUpFault rules.targets.now allowed refuses rules.forms.now rules.steps rules.lines.now entries n c.in_err-seen.field-0.0) c.name-name.ensures
    c.in_err-seen.ensures.fault)
