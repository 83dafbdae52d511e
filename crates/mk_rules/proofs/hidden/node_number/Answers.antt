use Rattle.std.proofs.Common.{◌≡◌, ◌<◌, ℕ, Option, length, true, sym, ap, subst, ◌∙◌}
use Rattle.std.specs.Prelude.{IfSome}
use Rattle.std.specs.FinMap as map
use Rattle.mk_names.specs.Names.{name_at}
use Rattle.mk_nodes.specs.Prerequisites.{inputs_of, is_node}
use Rattle.mk_rules.specs.NodeNotes.{is_marked, AreKnownNodes}
use Rattle.mk_rules.proofs.RowLemmas.{added_known}
use Rattle.mk_rules.proofs.hidden.node_number.Goals as goal

pub returns-in-Some-clause-number : goal.returns-in-Some-clause-number
returns-in-Some-clause-number g c =
    let names = c.args.names.now in
    let name = c.args.name.now in
    let is = subst (λ (o : Option ℕ). IfSome o (λ (n : ℕ). (n < length names) × (name_at names n ≡ name))) c.in-Some.is c.in_ok-known.ensures.name in
    (added_known names name c.in-Some.number is.0 is.1, is.0, is.1)

pub returns-in-Some-clause-node : goal.returns-in-Some-clause-node
returns-in-Some-clause-node g c = λ looks now.
    let rules = c.args.rules.now in
    let names = c.args.names.now in
    let name = c.args.name.now in
    let p = is_node (inputs_of rules.lines.now (map.get rules.state.now) looks) in
    let is = subst (λ (o : Option ℕ). IfSome o (λ (n : ℕ). (n < length names) × (name_at names n ≡ name))) c.in-Some.is c.in_ok-known.ensures.name in
    let marked = subst (λ (o : Option ℕ). IfSome o (λ (n : ℕ). is_marked c.args.notes.now.marks.items n ≡ true)) c.in-Some.is c.in_ok-known.ensures.marked in
    sym (ap p (sym is.1) ∙ (c.requires looks now c.in-Some.number marked).1)

pub returns-in-Some-clause-noted : goal.returns-in-Some-clause-noted
returns-in-Some-clause-noted g c = λ looks now.
    let rules = c.args.rules.now in
    let p = is_node (inputs_of rules.lines.now (map.get rules.state.now) looks) in
    subst (AreKnownNodes p c.args.names.now) (sym c.in_ok-known.ensures.same) (c.requires looks now)

pub returns-then-not-branch-clause-noted : goal.returns-then-not-branch-clause-noted
returns-then-not-branch-clause-noted g c = λ looks now.
    let rules = c.args.rules.now in
    let p = is_node (inputs_of rules.lines.now (map.get rules.state.now) looks) in
    subst (AreKnownNodes p c.args.names.now) (sym c.in_ok-known.ensures.same) (c.requires looks (c.in_ok-is_node.ensures.looks.narrows looks now))

pub returns-clause-noted : goal.returns-clause-noted
returns-clause-noted g c = λ looks now.
    let rules = c.args.rules.now in
    let p = is_node (inputs_of rules.lines.now (map.get rules.state.now) looks) in
    let told = c.in_ok-is_node.ensures.node looks now in
    let yes : p c.args.name.now ≡ true = cc in
    c.in_ok-number.ensures.known p yes
    (subst (AreKnownNodes p c.args.names.now) (sym c.in_ok-known.ensures.same) (c.requires looks (c.in_ok-is_node.ensures.looks.narrows looks now)))
