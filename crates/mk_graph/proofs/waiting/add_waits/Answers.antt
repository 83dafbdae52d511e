use Rattle.std.proofs.Common.{◌≡◌, ◌+◌, Bool, true, false, ◌&&◌, ◌||◌, [], ◌∷◌, ◌++◌, length, map, take, nat_lt, refl, sym, ap, ◌∙◌, arith}
use Rattle.std.proofs.lemmas.List.{length-map, take_more, get_or-map}
use Rattle.std.specs.List.{list_all}
use Rattle.mk_graph.specs.Edges.{row, has}
use Rattle.mk_graph.specs.Waits.{all_of, waits}
use Rattle.mk_graph.proofs.RowLemmas.{list_all_place}
use Rattle.mk_graph.proofs.WaitLemmas.{waits-push, all_of-push, begin_through}
use Rattle.mk_graph.proofs.waiting.add_waits.Goals as goal

or_assoc : (a b d : Bool) → ((a || b) || d) ≡ (a || (b || d))
or_assoc true b d = refl
or_assoc false b d = refl

pub add_to_rows-requires : goal.add_to_rows-requires
add_to_rows-requires c =
    let nodes = length c.args.rows.now.items in
    let group = c.group-item.result in
    let named = list_all_place (λ g. list_all (λ n. nat_lt n nodes) g.items) c.args.groups.now c.loop-group.group-index group c.loop-group-test.true c.requires in
    ap (list_all (λ n. nat_lt n (length c.loop-group.rows.items))) c.deref.ensures.value
    ∙ ap (λ k. list_all (λ n. nat_lt n k) group.items) c.loop-group.invariant.nodes
    ∙ ap (λ g. list_all (λ n. nat_lt n nodes) g.items) c.group-item.is ∙ named

pub loop-group-preserved : goal.loop-group-preserved
loop-group-preserved c =
    let groups = map (λ r. r.items) c.args.groups.now in
    let i = c.loop-group.group-index in
    let seen = take i groups in
    let group = c.group-item.result.items in
    let count = length-map c.args.groups.now (λ r. r.items) in
    let test = c.loop-group-test.true in
    let next : take (i + 1) groups ≡ seen ++ group ∷ []
    = take_more groups i [] (omega arith)
    ∙ ap (λ g. seen ++ g ∷ []) (get_or-map (λ r. r.items) c.args.groups.now i c.group-item.result [] test ∙ sym (ap (λ r. r.items) c.group-item.is)) in
    record {
      nodes = c.in_ok-add_to_rows.ensures.nodes ∙ c.loop-group.invariant.nodes;
      before =
          c.in_ok-extend_from_slice.ensures.items ∙ ap (λ l. c.loop-group.before.items ++ l) c.deref-in-loop-group-2.ensures.value
          ∙ ap (λ l. l ++ group) c.loop-group.invariant.before ∙ sym (all_of-push seen group) ∙ ap all_of (sym next);
      members = λ n m.
          let was = has (row (map (λ r. r.items) c.args.rows.now.items) n) m in
          let waited = waits seen n m in
          c.in_ok-add_to_rows.ensures.members n m
          ∙ ap (λ b. b || (has c.deref.result.now n && has c.deref-in-loop-group.result.now m)) (c.loop-group.invariant.members n m)
          ∙ ap (λ l. (was || waited) || (has l n && has c.deref-in-loop-group.result.now m)) c.deref.ensures.value
          ∙ ap (λ l. (was || waited) || (has group n && has l m)) (c.deref-in-loop-group.ensures.value ∙ c.loop-group.invariant.before)
          ∙ or_assoc was waited (has group n && has (all_of seen) m)
          ∙ ap (λ b. was || b) (sym (waits-push seen group n m))
          ∙ ap (λ gs. was || waits gs n m) (sym next);
      begin = begin_through _ _ _ c.loop-group.invariant.begin c.in_ok-add_to_rows.ensures.begin;
    }
