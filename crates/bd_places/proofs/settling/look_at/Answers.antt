use Rattle.std.proofs.Common.{◌<◌, ◌&&◌, nat_eq, cond, false, length, slice_index, slice_index_or, ap, ◌∙◌, arith}
use Rattle.mk_graph.specs.Edges.{has, row}
use Rattle.bd_links.specs.Linked.{Linked}
use Rattle.bd_places.specs.Settling.{standing, gone_on}
use Rattle.bd_places.specs.Tally.{prerequisites_of}
use Rattle.bd_places.proofs.LookLemmas.{gone_so_far, gone_more, met_below, met_once, met_all}
use Rattle.bd_places.proofs.settling.look_at.Goals as goal

pub pass-requires-clause-node : goal.pass-requires-clause-node
pass-requires-clause-node c =
    let users = c.row-users.ensures ∙ ap (row c.args.tally.now.users) c.number.ensures in
    let in_node : c.args.node < length c.args.tally.now.counted = omega (arith, c.requires.node, c.requires.nodes) in
    let below = met_below c.args.tally.now _ _ c.args.node c.requires.tallied in_node c.row-users.result.now users c.loop-user.user-index c.loop-user-test.true in
    omega (arith, below, c.new.ensures, c.requires.nodes, ap (λ v. v.nodes) c.loop-user.invariant.links)

pub loop-user-preserved : goal.loop-user-preserved
loop-user-preserved c =
    let users = c.row-users.ensures ∙ ap (row c.args.tally.now.users) c.number.ensures in
    let in_node : c.args.node < length c.args.tally.now.counted = omega (arith, c.requires.node, c.requires.nodes) in
    let t = c.args.tally.now in
    let now = standing c.loop-user.links.lists c.loop-user.ends in
    record {
      links = c.pass.ensures.links ∙ ap {A = Linked} {B = Linked} (λ v. record v { lists = c.pass.new.links.lists }) c.loop-user.invariant.links;
      so_far = c.pass.ensures.standing
          ∙ ap (λ u. cond (has now.lists.waiting u && nat_eq (slice_index t.missing.items u) 0) (gone_on (slice_index_or t.doomed.items u false) u now) now) c.new.ensures
          ∙ gone_more t c.args.links.now.nodes (standing c.args.links.now.lists c.args.ends.now) c.requires.standing c.requires.tallied
          c.row-users.result.now c.loop-user.user-index c.loop-user-test.true
          (met_once t _ _ c.args.node c.requires.tallied in_node c.row-users.result.now users) now c.loop-user.invariant.so_far;
    }

pub returns-clause-standing : goal.returns-clause-standing
returns-clause-standing c =
    let users = c.row-users.ensures ∙ ap (row c.args.tally.now.users) c.number.ensures in
    let in_node : c.args.node < length c.args.tally.now.counted = omega (arith, c.requires.node, c.requires.nodes) in
    c.loop-user.invariant.so_far
    ∙ ap (gone_so_far (prerequisites_of c.args.tally.now) (standing c.args.links.now.lists c.args.ends.now))
    (met_all c.args.tally.now _ _ c.args.node c.requires.tallied in_node c.row-users.result.now users c.loop-user.user-index c.loop-user-test.false)
