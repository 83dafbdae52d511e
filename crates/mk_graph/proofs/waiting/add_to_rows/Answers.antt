use Rattle.std.proofs.Common.{◌<◌, [], ◌++◌, length, get_or, set, map, nat_lt, sym, ap, ◌∙◌, arith, length-set, ltb-true, subst, ◌≡◌}
use Rattle.std.proofs.lemmas.List.{map-set, length-map, get_or-map}
use Rattle.mk_graph.specs.Edges.{row, has}
use Rattle.mk_graph.proofs.RowLemmas.{list_all_place}
use Rattle.mk_graph.specs.Waits.{BeginWith}
use Rattle.mk_graph.proofs.WaitLemmas.{row_added, begin_added, begin_through}
use Rattle.mk_graph.proofs.waiting.add_to_rows.Goals as goal

pub loop-node-preserved : goal.loop-node-preserved
loop-node-preserved c =
    let rows = c.loop-node.rows.items in
    let base = map (λ r. r.items) c.args.rows.now.items in
    let us = map (λ r. r.items) rows in
    let i = c.loop-node.node-index in
    let p = get_or c.args.nodes.now i 0 in
    let more = c.args.prerequisites.now in
    let nodes = c.loop-node.invariant.nodes in
    let named : p < length c.args.rows.now.items = ltb-true p (length c.args.rows.now.items) (list_all_place (λ n. nat_lt n (length c.args.rows.now.items)) c.args.nodes.now i 0 c.loop-node-test.true c.requires) in
    let there : p < length rows = omega arith in
    let place : p < length us = let e = length-map rows (λ r. r.items) in omega arith in
    let value = c.index_mut-row.ensures.value in
    let after : map (λ r. r.items) (set rows p c.extend_from_slice.new.self) ≡ set us p (row us p ++ more)
    = map-set (λ r. r.items) rows p c.extend_from_slice.new.self
    ∙ ap (set us p) (c.in_ok-extend_from_slice.ensures.items ∙ ap (λ l. l ++ more) (ap (λ r. r.items) value ∙ sym (get_or-map (λ r. r.items) rows p c.index_mut-row.result.now [] there))) in
    record {
      nodes = length-set _ _ _ ∙ nodes;
      members = λ n m.
          ap (λ l. has (row l n) m) after
          ∙ row_added base us c.args.nodes.now i more c.loop-node-test.true place c.loop-node.invariant.members n m;
      begin = subst (BeginWith base) (sym after) (begin_through base us _ c.loop-node.invariant.begin (begin_added us p more place));
    }
