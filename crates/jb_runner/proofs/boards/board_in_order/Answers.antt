use Rattle.std.proofs.Common.{◌≡◌, ℕ, false, List, length, sym, ap, subst, ◌∙◌, rules, arith}
use Rattle.std.proofs.lemmas.Result.{IfOk-weaker}
use Rattle.mk_graph.specs.Counted.{AreSets, joined}
use Rattle.bd_ledger.specs.Sheet.{AreDistinct, first_sheet_in}
use Rattle.bd_lists.proofs.OnceLemmas.{times_once}
use Rattle.mk_nodes.specs.Graph.{required_in}
use Rattle.mk_graph.proofs.JoinLemmas.{length-joined}
use Rattle.jb_order.specs.InOrder.{HasAlso}
use Rattle.jb_runner.proofs.BoardLemmas.{same_board}
use Rattle.jb_runner.proofs.boards.board_in_order.Goals as goal

pub of-requires-clause-nodes : goal.of-requires-clause-nodes
of-requires-clause-nodes c =
    ap length c.in_ok-hard.ensures ∙ sym (c.in_ok-counted.ensures.nodes ∙ length-joined c.required_edges-required.result.now c.in_ok-more.more)

pub of-requires-clause-names : goal.of-requires-clause-names
of-requires-clause-names c =
    let graph = c.args.graph.now in
    ap length c.in_ok-names.ensures ∙ graph.named ∙ sym graph.required_rows ∙ sym (ap length c.required_edges-required.ensures)
    ∙ sym (c.in_ok-counted.ensures.nodes ∙ length-joined c.required_edges-required.result.now c.in_ok-more.more)

pub of-requires-clause-room : goal.of-requires-clause-room
of-requires-clause-room c =
    let graph = c.args.graph.now in
    let nodes : length c.in_ok-counted.counted ≡ length graph.nodes.items =
    c.in_ok-counted.ensures.nodes ∙ length-joined c.required_edges-required.result.now c.in_ok-more.more ∙ ap length c.required_edges-required.ensures ∙ graph.required_rows in
    let names : length c.in_ok-counted.counted ≡ length c.in_ok-names.names.items = nodes ∙ sym (ap length c.in_ok-names.ensures ∙ graph.named) in
    first_of (omega arith, first_of (omega (arith, nodes, names), search (rules, nodes, names)))

pub of-requires-clause-distinct : goal.of-requires-clause-distinct
of-requires-clause-distinct c = subst AreDistinct (sym c.in_ok-names.ensures) c.args.graph.now.distinct

pub of-requires-clause-once : goal.of-requires-clause-once
of-requires-clause-once c = λ u n. times_once _ (c.in_ok-counted.ensures.ascending u) n

pub returns : goal.returns
returns c =
    let graph = c.args.graph.now in
    let counted : List (List ℕ) = c.in_ok-counted.counted in
    let more : List (List ℕ) = c.in_ok-more.more in
    let hard : List (List ℕ) = c.in_ok-hard.hard in
    let names : List (List ℕ) = c.in_ok-names.names.items in
    let required : c.required_edges-required.result.now ≡ required_in graph = c.required_edges-required.ensures in
    let sets : AreSets (joined (required_in graph) more) counted = subst (λ (r : List (List ℕ)). AreSets (joined r more) counted) required c.in_ok-counted.ensures in
    IfOk-weaker c.of.result
    (λ b. b ≡ first_sheet_in c.args.form (record { counted = counted; hard = hard }) names)
    (λ b. (more counted : List (List ℕ)) × (graph.soft_dropped ≡ false → HasAlso graph.soft more) × AreSets (joined (required_in graph) more) counted
    × (b ≡ first_sheet_in c.args.form (record { counted = counted; hard = required_in graph }) graph.names))
    (λ b is. (more, counted, c.in_ok-more.ensures.also, sets, is ∙ same_board c.args.form counted hard (required_in graph) names graph.names (c.in_ok-hard.ensures ∙ required) c.in_ok-names.ensures))
    c.of.ensures
