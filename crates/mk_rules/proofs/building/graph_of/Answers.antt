use Rattle.std.proofs.Common.{◌≡◌, ℕ, List, sym, ap, subst, ◌∙◌}
use Rattle.std.specs.Prelude.{codes}
use Rattle.mk_graph.specs.Numbering.{AreDescribed}
use Rattle.mk_graph.specs.declared.numbering.Numbered.{Numbered}
use Rattle.mk_rules.specs.Found.{AreFound, IsGraphlessFault}
use Rattle.mk_nodes.specs.Graph.{AreUnmade}
use Rattle.mk_edges.specs.Known.{IsKnown}
use Rattle.mk_nodes.specs.declared.graph.Node.{Node}
use Rattle.mk_rule_lines.specs.Explicit.{explicit_targets}
use Rattle.mk_rule_lines.specs.Rules.{recipe_places}
use Rattle.mk_settings.specs.Goals.{goals_of}
use Rattle.mk_makefile.specs.Taken.{AreTaken}
use Rattle.mk_rule_lines.specs.declared.rule_line.RuleLine.{RuleLine}
use Rattle.mk_nodes.specs.Node.{EachHasOneNumber}
use Rattle.mk_nodes.specs.Prerequisites.{Inputs, is_target}
use Rattle.mk_rule_lines.specs.declared.fault.RuleFault.TheVariants.{OutOfMemory}
use Rattle.mk_rules.proofs.AssemblyLemmas.{unmade_fault}
use Rattle.mk_rules.proofs.DistinctLemmas.{distinct_numbers}
use Rattle.mk_rules.proofs.FoundLemmas.{target_is}
use Rattle.mk_rule_lines.proofs.LineLemmas.{handed_on}
use Rattle.mk_rules.proofs.building.graph_of.Goals as goal

-- the same of what was numbered once its rows are shared
as_shared : (inputs : Inputs) (named : List (List ℕ)) (n shared : Numbered Node) → shared ≡ n → AreFound inputs (goals_of inputs.lines named) n → AreFound inputs (goals_of inputs.lines named) shared
as_shared inputs named n shared same found = subst (AreFound inputs (goals_of inputs.lines named)) (sym same) found

pub unmade_nodes-requires-clause-table : goal.unmade_nodes-requires-clause-table
unmade_nodes-requires-clause-table c = λ name.
    target_is c.args.makefile.lines.items c.args.makefile.targets c.args.makefile.table.named name
    ∙ ap (λ (ls : List RuleLine). is_target ls name) (sym c.deref.ensures.value)

pub unmade_nodes-requires-clause-recipes : goal.unmade_nodes-requires-clause-recipes
unmade_nodes-requires-clause-recipes c =
    c.args.makefile.table.recipe (codes ".DEFAULT") ∙ ap (λ (ls : List RuleLine). recipe_places (explicit_targets ls) 0 ls (codes ".DEFAULT")) (sym c.deref.ensures.value)

pub returns-in_err-unmade-clause-fault : goal.returns-in_err-unmade-clause-fault
returns-in_err-unmade-clause-fault c =
    let lines = c.args.makefile.lines.items in
    let n = c.args.numbered in
    handed_on _
    (λ f. (inputs : Inputs) → (named : List (List ℕ)) → inputs.lines ≡ lines → AreFound inputs (goals_of inputs.lines named) n → IsGraphlessFault inputs named f)
    c.in_err-unmade.field-0.0 (c.from_residual.ensures).1
    (λ inputs named are found. unmade_fault inputs named lines are n found c.requires.node_count c.in_err-unmade.field-0.0
    (c.in_err-unmade.ensures.fault inputs (are ∙ sym c.deref.ensures.value) found.known))

pub order_found-requires-clause-taken : goal.order_found-requires-clause-taken
order_found-requires-clause-taken c =
    let same : c.args.makefile.lines.items ≡ c.deref-2.result.now = cc in
    subst AreTaken same c.args.makefile.taken

pub order_found-requires-clause-unmade : goal.order_found-requires-clause-unmade
order_found-requires-clause-unmade c = λ inputs are known.
    let same : c.deref-2.result.now ≡ c.deref.result.now = cc in
    let shared = c.shared-numbered.ensures in
    subst (λ n. AreUnmade inputs n.names c.in_ok-unmade.unmade.items) (sym shared)
    (c.in_ok-unmade.ensures.unmade inputs (are ∙ same) (subst (λ n. AreDescribed (IsKnown inputs) n.names n.nodes.items) shared known))

pub returns-in_err-named-clause-fault : goal.returns-in_err-named-clause-fault
returns-in_err-named-clause-fault c =
    let lines = c.args.makefile.lines.items in
    let n = c.args.numbered in
    handed_on _
    (λ f. (inputs : Inputs) → (named : List (List ℕ)) → inputs.lines ≡ lines → AreFound inputs (goals_of inputs.lines named) n → IsGraphlessFault inputs named f)
    c.in_err-named.field-0.0 (c.from_residual-in_err-named.ensures).1
    (λ inputs named are found. let same : lines ≡ c.deref-2.result.now = cc in c.in_err-named.ensures.fault inputs named (are ∙ same) (as_shared inputs named n c.shared-numbered.result c.shared-numbered.ensures found))

pub returns-in_err-put_together-clause-fault : goal.returns-in_err-put_together-clause-fault
returns-in_err-put_together-clause-fault c =
    let lines = c.args.makefile.lines.items in
    let n = c.args.numbered in
    handed_on _
    (λ f. (inputs : Inputs) → (named : List (List ℕ)) → inputs.lines ≡ lines → AreFound inputs (goals_of inputs.lines named) n → IsGraphlessFault inputs named f)
    OutOfMemory (c.from_residual-in_err-put_together.ensures).1 (λ inputs named are found. tt)

pub returns-clause-graph : goal.returns-clause-graph
returns-clause-graph c = λ inputs named are entries found.
    let same : c.args.makefile.lines.items ≡ c.deref-2.result.now = cc in
    c.in_ok-named.ensures.graph inputs named (are ∙ same) (as_shared inputs named c.args.numbered c.shared-numbered.result c.shared-numbered.ensures found) c.args.state entries c.in_ok-put_together.field-0
    (rw (sym c.deref-2.ensures.value) at c.in_ok-put_together.ensures.graph)

pub put_together-requires-clause-names : goal.put_together-requires-clause-names
put_together-requires-clause-names c =
    subst EachHasOneNumber (sym c.in_ok-named.ensures.named.names)
    (subst (λ n. EachHasOneNumber n.names) (sym c.shared-numbered.ensures) (distinct_numbers c.args.numbered.names c.requires.names))
