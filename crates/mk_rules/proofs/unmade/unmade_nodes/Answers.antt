use Rattle.std.proofs.Common.{◌≡◌, ◌<◌, ℕ, Bool, true, false, List, Some, length, refl, sym, ap, subst, ◌∙◌}
use Rattle.std.specs.Prelude.{◌||◌, is_some, slice_get}
use Rattle.std.proofs.lemmas.Option.{slice_get_read}
use Rattle.mk_graph.specs.Edges.{has}
use Rattle.mk_names.specs.Names.{name_at}
use Rattle.mk_graph.specs.Numbering.{AreDescribed}
use Rattle.mk_edges.specs.Known.{IsKnown}
use Rattle.mk_nodes.specs.Prerequisites.{Inputs, default_of, is_target, is_made}
use Rattle.mk_makefile.specs.Table.{is_named, named_at}
use Rattle.mk_rule_lines.specs.declared.rule_line.RuleLine.{RuleLine}
use Rattle.mk_makefile.specs.declared.table.TargetTable.{TargetTable}
use Rattle.mk_nodes.specs.declared.graph.Node.{Node}
use Rattle.mk_rules.proofs.MadeLemmas.{made_is, made_more, unmade_more}
use Rattle.mk_rules.proofs.unmade.unmade_nodes.Goals as goal

-- what was told of a node says whether something makes it
told_of : (inputs : Inputs) (lines : List RuleLine) (targets : TargetTable) (names : List (List ℕ)) (nodes read : List Node) (k : ℕ) (found : Node) (name : List ℕ) (told : Bool) →
    inputs.lines ≡ lines → is_some (default_of lines) ≡ false → ((n : List ℕ) → is_named (named_at targets n) ≡ is_target lines n) →
    AreDescribed (IsKnown inputs) names nodes → read ≡ nodes → slice_get read k ≡ Some found → name ≡ name_at names k →
    told ≡ (is_some found.stamp || (is_some found.rare.stem || is_named (named_at targets name))) → is_made inputs (name_at names k) ≡ told
told_of inputs lines targets names nodes read k found name told are none table described items at name_is test =
    sym (made_is inputs lines targets are none table (name_at names k) found (described k found (subst (λ (xs : List Node). slice_get xs k ≡ Some found) items at)))
    ∙ ap (λ n. is_some found.stamp || (is_some found.rare.stem || is_named (named_at targets n))) (sym name_is) ∙ sym test

true_false : true ≡ false → ⊥
true_false e = cc

pub unmade_at-requires-clause-node : goal.unmade_at-requires-clause-node
unmade_at-requires-clause-node c =
    let nodes = c.args.numbered.now.nodes.items in
    let items : c.deref-known-items.result.now ≡ nodes = c.deref-known-items.ensures.value in
    subst (λ l. c.loop-node.node < l) c.requires.count (subst (λ (xs : List Node). c.loop-node.node < length xs) items c.loop-node-test.true)

pub loop-node-preserved-then-is_made : goal.loop-node-preserved-then-is_made
loop-node-preserved-then-is_made c = record {
  unmade = λ inputs are described.
      let names = c.args.numbered.now.names in
      made_more (λ k. is_made inputs (name_at names k)) c.loop-node.nodes.items c.loop-node.node (c.loop-node.invariant.unmade inputs are described)
      (told_of inputs c.args.lines.now c.args.targets.now names c.args.numbered.now.nodes.items c.deref-known-items.result.now c.loop-node.node c.known-item.result
      c.name-name.result.now c.is_made.result are (ap is_some (sym c.default_of-default.ensures) ∙ sym c.is_some.ensures ∙ c.if-is_some.false)
      c.requires.table described c.deref-known-items.ensures.value
      (slice_get_read c.deref-known-items.result.now (length c.deref-known-items.result.now) c.loop-node.node c.known-item.result refl c.loop-node-test.true c.known-item.is)
      c.name-name.ensures c.is_made.ensures ∙ c.if-is_made.true);
  made = c.loop-node.invariant.made;
}

pub returns-then-not-goes_on-clause-fault : goal.returns-then-not-goes_on-clause-fault
returns-then-not-goes_on-clause-fault c = λ inputs are described.
    let names = c.args.numbered.now.names in
    let nodes = c.args.numbered.now.nodes.items in
    let items : c.deref-known-items.result.now ≡ nodes = c.deref-known-items.ensures.value in
    record {
      node = c.loop-node.node;
      within = subst (λ l. c.loop-node.node < l) c.requires.count (subst (λ (xs : List Node). c.loop-node.node < length xs) items c.loop-node-test.true);
      name = c.in_ok-unmade.ensures.name;
      unmade = told_of inputs c.args.lines.now c.args.targets.now names nodes c.deref-known-items.result.now c.loop-node.node c.known-item.result
          c.name-name.result.now c.is_made.result are (ap is_some (sym c.default_of-default.ensures) ∙ sym c.is_some.ensures ∙ c.if-is_some.false)
          c.requires.table described items
          (slice_get_read c.deref-known-items.result.now (length c.deref-known-items.result.now) c.loop-node.node c.known-item.result refl c.loop-node-test.true c.known-item.is)
          c.name-name.ensures c.is_made.ensures ∙ c.if-is_made.false;
      needed = c.in_ok-unmade.ensures.needed;
    }

pub loop-node-preserved : goal.loop-node-preserved
loop-node-preserved c = record {
  unmade = λ inputs are described n.
      let names = c.args.numbered.now.names in
      ap (λ ns. has ns n) c.in_ok-push.ensures.items
      ∙ unmade_more (λ k. is_made inputs (name_at names k)) c.loop-node.nodes.items c.loop-node.node (c.loop-node.invariant.unmade inputs are described)
      (told_of inputs c.args.lines.now c.args.targets.now names c.args.numbered.now.nodes.items c.deref-known-items.result.now c.loop-node.node c.known-item.result
      c.name-name.result.now c.is_made.result are (ap is_some (sym c.default_of-default.ensures) ∙ sym c.is_some.ensures ∙ c.if-is_some.false)
      c.requires.table described c.deref-known-items.ensures.value
      (slice_get_read c.deref-known-items.result.now (length c.deref-known-items.result.now) c.loop-node.node c.known-item.result refl c.loop-node-test.true c.known-item.is)
      c.name-name.ensures c.is_made.ensures ∙ c.if-is_made.false) n;
  made = λ stops. absurd (true_false (sym c.if-not-goes_on.false ∙ stops));
}
