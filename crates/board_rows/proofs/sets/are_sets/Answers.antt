use Rattle.std.proofs.Common.{◌≡◌, ◌≤◌, ◌<◌, ℕ, List, subst, arith}
use Rattle.mk_graph.specs.Edges.{row, times}
use Rattle.board_rows.proofs.OnceLemmas.{rows_once}
use Rattle.board_rows.proofs.sets.are_sets.Goals as goal
use borrow.Author.Count.{below_more}

pub loop-node-preserved : goal.loop-node-preserved
loop-node-preserved c = below_more (λ u. (n : ℕ) → times n (row c.args.edges.now u) ≤ 1) c.loop-node.node c.loop-node.invariant
    (subst (λ (ns : List ℕ). (n : ℕ) → times n ns ≤ 1) c.row.ensures (c.ascends.ensures c.if-not-ascends.false))

pub returns : goal.returns
returns c = λ t. rows_once c.args.edges.now c.loop-node.node c.loop-node.invariant (omega arith)
