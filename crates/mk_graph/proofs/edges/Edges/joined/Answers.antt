use Rattle.std.proofs.Common.{◌≡◌, ℕ, List, [], ◌∷◌, ◌++◌, length, take, sym, ap, ◌∙◌, arith, append_assoc}
use Rattle.std.proofs.lemmas.List.{take_all, take_more}
use Rattle.byte_strings.proofs.PieceLemmas.{pieces-push, AreEnds-push}
use Rattle.mk_graph.specs.Edges.{row}
use Rattle.mk_graph.specs.Counted.{joined}
use Rattle.mk_graph.proofs.JoinLemmas.{length-joined, row-joined}
use Rattle.mk_graph.proofs.edges.Edges.joined.Goals as goal

pub loop-node-preserved : goal.loop-node-preserved
loop-node-preserved c =
    let first = c.args.first.now in
    let second = c.args.second.now in
    let node = c.loop-node.node in
    let numbers = c.loop-node.numbers.items in
    let ends = c.loop-node.ends.items in
    let both : List ℕ = row first node ++ row second node in
    let longer : c.append-in-loop-node.new.numbers.items ≡ numbers ++ both
    = c.in_ok-append-2.ensures.ok ∙ ap (λ l. l ++ c.row-in-loop-node.result.now) c.in_ok-append.ensures.ok
    ∙ append_assoc numbers c.row.result.now c.row-in-loop-node.result.now ∙ ap (λ l. numbers ++ (l ++ c.row-in-loop-node.result.now)) c.row.ensures ∙ ap (λ l. numbers ++ (row first node ++ l)) c.row-in-loop-node.ensures in
    let size : c.in_ok-short.field-0 ≡ length (numbers ++ both) = omega (arith, c.in_ok-short.ensures, ap length longer) in
    record {
      ends = rw (longer, c.in_ok-push.ensures.ok) (AreEnds-push numbers both c.in_ok-short.field-0 0 ends c.loop-node.invariant.ends size);
      rows = rw (longer, c.in_ok-push.ensures.ok)
          (pieces-push numbers both c.in_ok-short.field-0 0 ends c.loop-node.invariant.ends size
          ∙ ap (λ l. l ++ both ∷ []) c.loop-node.invariant.rows
          ∙ ap (λ r. take node (joined first second) ++ r ∷ []) (sym (row-joined first second c.requires node))
          ∙ sym (take_more (joined first second) node [] (let l = length-joined first second in omega arith)));
    }

pub returns : goal.returns
returns c =
    let l = length-joined c.args.first.now c.args.second.now in
    c.of_packed.ensures ∙ c.loop-node.invariant.rows ∙ take_all c.loop-node.node (joined c.args.first.now c.args.second.now) (omega arith)
