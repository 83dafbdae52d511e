use Rattle.std.proofs.Common.{◌≡◌, ◌<◌, ℕ, true, nat_lt, List, length, sym, ap, subst, ◌∙◌}
use Rattle.std.specs.Prelude.{unwrap_or}
use Rattle.std.specs.List.{list_all}
use Rattle.mk_graph.specs.Counted.{counting, IsDropped}
use Rattle.mk_graph.specs.Cycle.{HasCycle}
use Rattle.mk_graph.specs.Edges.{row, is_closed}
use Rattle.mk_graph.specs.Plan.{IsPlan}
use Rattle.mk_names.specs.Names.{has_name, name_at}
use Rattle.mk_graph.specs.Numbering.{AreDescribed}
use Rattle.mk_graph.proofs.CycleLemmas.{closed_row}
use Rattle.mk_graph.specs.declared.numbering.Numbered.{Numbered}
use Rattle.mk_settings.specs.Goals.{goals_of}
use Rattle.mk_rules.specs.Found.{AreFound, IsGraphlessFault}
use Rattle.mk_nodes.specs.Graph.{AreHard, AreRequired, AreSoft}
use Rattle.mk_edges.specs.Known.{IsKnown}
use Rattle.mk_edges.specs.Ordering.{IsCycleFault}
use Rattle.mk_nodes.specs.Prerequisites.{Inputs, prerequisites_of}
use Rattle.mk_nodes.specs.declared.graph.Node.{Node}
use Rattle.mk_edges.specs.Rows.{EachRow, IsHardRow, IsSoftRow}
use Rattle.mk_rules.proofs.AssemblyLemmas.{assembled, cycle_fault}
use Rattle.mk_edges.proofs.RowLaws.{are_hard, row_at}
use Rattle.mk_edges.proofs.RequiredLemmas.{numbers_named}
use Rattle.mk_rule_lines.proofs.LineLemmas.{handed_on}
use Rattle.mk_rules.proofs.building.order_found.Goals as goal

-- each prerequisite of a name is a name
inside : (inputs : Inputs) (named : List (List ℕ)) (n : Numbered Node) → AreFound inputs (goals_of inputs.lines named) n → length n.nodes.items ≡ length n.names →
    length n.rows ≡ length n.names → is_closed n.rows ≡ true → (k : ℕ) → k < length n.names → list_all (has_name n.names) (prerequisites_of inputs (name_at n.names k)) ≡ true
inside inputs named n found nodes count closed k within =
    ap (list_all (has_name n.names)) (sym (row_at inputs n.names n.rows n.nodes.items found.rows_are found.known nodes k within))
    ∙ numbers_named n.names (row n.rows k)
    (ap (λ l. list_all (λ x. nat_lt x l) (row n.rows k)) (sym count) ∙ closed_row n.rows closed k (subst (λ l. k < l) (sym count) within))

hard_are : (inputs : Inputs) (named : List (List ℕ)) (n : Numbered Node) → AreFound inputs (goals_of inputs.lines named) n → length n.nodes.items ≡ length n.names →
    (hard : List (List ℕ)) → length hard ≡ length n.names → EachRow (IsHardRow n.rows n.nodes.items) hard → AreHard inputs n.names hard
hard_are inputs named n found nodes hard count rows =
    are_hard inputs n.names n.rows n.nodes.items found.rows_are found.known nodes hard (count ∙ sym nodes) rows

pub returns-in_err-ordered-clause-fault : goal.returns-in_err-ordered-clause-fault
returns-in_err-ordered-clause-fault c =
    let lines = c.args.lines.now in
    let n = c.args.numbered in
    let h = c.in_ok-hard.field-0.fronts in
    let hard = c.in_ok-hard.ensures in
    let f = c.in_err-ordered.field-0.0 in
    let edges : List (List ℕ) = unwrap_or c.in_ok-required.required h in
    handed_on _
    (λ f. (inputs : Inputs) → (named : List (List ℕ)) → inputs.lines ≡ lines → AreFound inputs (goals_of inputs.lines named) n → IsGraphlessFault inputs named f)
    f (c.from_residual-in_err-ordered.ensures).1
    (λ inputs named are found. cycle_fault inputs named lines are n found c.requires.node_count edges
    (c.in_ok-required.ensures.required inputs (subst (AreDescribed (IsKnown inputs) n.names) (sym c.deref.ensures.value) found.known) (hard_are inputs named n found c.requires.node_count h hard.hard_count hard.hard)
    (inside inputs named n found c.requires.node_count c.requires.row_count c.requires.closed)) f
    (subst (λ ns. IsCycleFault edges ns f) c.named_nodes-named.ensures.names c.in_err-ordered.ensures.fault))

pub returns-clause-graph : goal.returns-clause-graph
returns-clause-graph c = λ inputs named are found state entries graph whole.
    let lines = c.args.lines.now in
    let n = c.args.numbered in
    let h = c.in_ok-hard.field-0.fronts in
    let hard = c.in_ok-hard.ensures in
    let edges : List (List ℕ) = unwrap_or c.in_ok-required.required h in
    let o = c.in_ok-ordered.ordered in
    let is = c.in_ok-ordered.ensures in
    let same : edges ≡ unwrap_or o.required o.hard = ap (λ x. unwrap_or x h) (sym is.required) ∙ ap (unwrap_or o.required) (sym is.hard) in
    assembled inputs named lines are n found c.requires.node_count o
    (ap length is.hard ∙ hard.hard_count)
    (subst (EachRow (IsHardRow n.rows n.nodes.items)) (sym is.hard) hard.hard)
    c.requires.taken
    c.args.unmade.items (c.requires.unmade inputs are found.known)
    (subst (AreRequired inputs n.names) same
    (c.in_ok-required.ensures.required inputs (subst (AreDescribed (IsKnown inputs) n.names) (sym c.deref.ensures.value) found.known) (hard_are inputs named n found c.requires.node_count h hard.hard_count hard.hard)
    (inside inputs named n found c.requires.node_count c.requires.row_count c.requires.closed)))
    (subst (AreSoft inputs n.names) (sym is.soft) (c.in_ok-soft.ensures.soft inputs are found.rows_are found.known))
    (subst (λ e. IsDropped e o.soft o.soft_dropped) same (subst (λ s. IsDropped edges s o.soft_dropped) (sym is.soft) is.dropped))
    (subst (λ e. HasCycle e → ⊥) same is.acyclic)
    (subst (λ e. IsPlan (counting e o.soft o.soft_dropped) o.order.items) same
    (subst (λ s. IsPlan (counting edges s o.soft_dropped) o.order.items) (sym is.soft) is.order))
    (ap length is.soft ∙ c.in_ok-soft.ensures.count)
    (subst (EachRow (IsSoftRow n.rows n.nodes.items)) (sym is.soft) c.in_ok-soft.ensures.rows)
    (ap is_closed is.soft ∙ c.in_ok-soft.ensures.closed) state entries graph c.named_nodes-named.result c.named_nodes-named.ensures whole
