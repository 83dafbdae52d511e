use Rattle.std.proofs.Common.{◌+◌, ◌<◌, None, length, slice_index_or, take, sym, ap, ◌∙◌, subst, arith, rules}
use Rattle.std.proofs.lemmas.List.{take_all}
use Rattle.bd_links.specs.declared.stand.Stand.TheVariants.{Settled}
use Rattle.bd_places.specs.Tally.{IsTallied}
use Rattle.bd_places.proofs.StandingLemmas.{at_most_once, below_from_has}
use Rattle.bd_places.proofs.SettleLemmas.{has_from_place, behind_fresh, behind_taken, behind_smaller, last_place}
use Rattle.bd_places.proofs.tally.Tally.count_behind.Goals as goal

pub count-requires-clause-node : goal.count-requires-clause-node
count-requires-clause-node c =
    let links = c.args.links.now in
    let was = c.loop-node.invariant.tallied in
    let in_ = below_from_has links.nodes links.lists c.requires.each_once Settled c.in-Some.node
    (has_from_place links.lists.settled (was.0 + 1) c.in-Some.node (sym (c.in-Some.ensures Settled was.0 was.1))) in
    omega (arith, ap (λ g. length g.counted) c.loop-node.invariant.edges)

pub count-requires-clause-tallied : goal.count-requires-clause-tallied
count-requires-clause-tallied c =
    let links = c.args.links.now in
    let was = c.loop-node.invariant.tallied in (
      take (was.0 + 1) links.lists.settled,
      c.args.ends.now,
      was.2,
      behind_fresh links.lists.settled was.0 c.loop-node.last c.in-Some.node (at_most_once links.nodes links.lists c.requires.each_once Settled) was.1
          (sym (c.in-Some.ensures Settled was.0 was.1)),
    )

pub loop-node-smaller : goal.loop-node-smaller
loop-node-smaller c =
    let links = c.args.links.now in
    let was = c.loop-node.invariant.tallied in
    behind_smaller links.lists.settled was.0 c.loop-node.last c.in-Some.node (at_most_once links.nodes links.lists c.requires.each_once Settled) was.1
    (sym (c.in-Some.ensures Settled was.0 was.1))

pub loop-node-preserved : goal.loop-node-preserved
loop-node-preserved c =
    let links = c.args.links.now in
    let was = c.loop-node.invariant.tallied in
    let behind = sym (c.in-Some.ensures Settled was.0 was.1) in
    let once = at_most_once links.nodes links.lists c.requires.each_once Settled in
    record {
      edges = c.count.ensures.edges ∙ c.loop-node.invariant.edges;
      tallied = (
        was.0 + 1,
        behind,
        subst (λ xs. IsTallied c.count.new.self xs c.args.ends.now) (sym (behind_taken links.lists.settled was.0 c.loop-node.last c.in-Some.node once was.1 behind))
            (c.count.ensures.tallied (take (was.0 + 1) links.lists.settled) c.args.ends.now was.2
            (behind_fresh links.lists.settled was.0 c.loop-node.last c.in-Some.node once was.1 behind) (ap (λ m. slice_index_or c.args.ends.now m None) (sym c.number.ensures))),
      );
    }

pub returns-clause-tallied : goal.returns-clause-tallied
returns-clause-tallied c =
    let links = c.args.links.now in
    let was = c.loop-node.invariant.tallied in
    let end = last_place links.lists.settled was.0 c.loop-node.last was.1 (c.in_default.ensures Settled was.0 was.1) in
    subst (λ xs. IsTallied c.loop-node.self xs c.args.ends.now) (take_all (was.0 + 1) links.lists.settled (omega arith)) was.2

pub returns-clause-last : goal.returns-clause-last
returns-clause-last c =
    let links = c.args.links.now in
    let was = c.loop-node.invariant.tallied in
    (was.0, was.1, last_place links.lists.settled was.0 c.loop-node.last was.1 (c.in_default.ensures Settled was.0 was.1))

pub after-requires : goal.after-requires
after-requires c =
    let links = c.args.links.now in
    let was = c.loop-node.invariant.tallied in
    below_from_has links.nodes links.lists c.requires.each_once Settled c.loop-node.last (has_from_place links.lists.settled was.0 c.loop-node.last was.1)

pub bounds-ends-number : goal.bounds-ends-number
bounds-ends-number c =
    let links = c.args.links.now in
    let was = c.loop-node.invariant.tallied in
    let in_ = below_from_has links.nodes links.lists c.requires.each_once Settled c.in-Some.node
    (has_from_place links.lists.settled (was.0 + 1) c.in-Some.node (sym (c.in-Some.ensures Settled was.0 was.1))) in
    omega arith

pub offset_bounds-ends-number : goal.offset_bounds-ends-number
offset_bounds-ends-number c =
    let links = c.args.links.now in
    let was = c.loop-node.invariant.tallied in
    let in_ = below_from_has links.nodes links.lists c.requires.each_once Settled c.in-Some.node
    (has_from_place links.lists.settled (was.0 + 1) c.in-Some.node (sym (c.in-Some.ensures Settled was.0 was.1))) in
    let below : c.number.result < length c.args.ends.now = omega arith in
    search rules
