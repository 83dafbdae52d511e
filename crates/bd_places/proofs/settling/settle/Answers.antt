use Rattle.std.proofs.Common.{Some, length, slice_set, ap, ◌∙◌, sym, subst, arith}
use Rattle.bd_links.specs.Linked.{Linked}
use Rattle.bd_links.specs.SixLists.{IsEachOnce}
use Rattle.bd_places.specs.Settling.{standing, ended}
use Rattle.bd_places.specs.Tally.{prerequisites_of}
use Rattle.bd_places.proofs.SettleLemmas.{Looking, settled_first, looked_below, looked_on, looking_done}
use Rattle.bd_places.proofs.settling.settle.Goals as goal

pub loop-looked-init : goal.loop-looked-init
loop-looked-init c = record {
  links = c.move_to.ensures ∙ ap {A = Linked} {B = Linked} (λ v. record c.args.links.now { lists = v.lists }) (sym c.move_to.ensures);
  looking = settled_first c.args.tally.now c.count.new.self c.args.links.now.nodes (standing c.args.links.now.lists c.args.ends.now) c.args.node c.args.end
      c.move_to.new.self.lists (slice_set c.args.ends.now c.number.result (Some c.args.end))
      c.requires.standing c.requires.tallied c.requires.node c.requires.nodes c.requires.unsettled c.count.ensures.edges c.count.ensures.tallied
      (ap {A = Linked} (λ v. v.lists) c.move_to.ensures) (ap (λ k. slice_set c.args.ends.now k (Some c.args.end)) c.number.ensures);
}

pub look_at-requires-clause-node : goal.look_at-requires-clause-node
look_at-requires-clause-node c =
    let below = looked_below (prerequisites_of c.args.tally.now) (ended c.args.node c.args.end (standing c.args.links.now.lists c.args.ends.now))
    (length c.args.links.now.lists.settled) c.loop-looked.tally c.args.links.now.nodes (standing c.loop-looked.links.lists c.loop-looked.ends) c.loop-looked.last
    c.loop-looked.looked c.in-Some.next c.in-Some.is c.loop-looked.invariant.looking in
    omega (arith, below, ap {A = Linked} (λ v. v.nodes) c.loop-looked.invariant.links)

pub count_behind-last-requires-clause-each_once : goal.count_behind-last-requires-clause-each_once
count_behind-last-requires-clause-each_once c =
    let nodes = ap {A = Linked} (λ v. v.nodes) c.look_at.ensures.links ∙ ap {A = Linked} (λ v. v.nodes) c.loop-looked.invariant.links in
    let on = looked_on (prerequisites_of c.args.tally.now) (ended c.args.node c.args.end (standing c.args.links.now.lists c.args.ends.now))
    (length c.args.links.now.lists.settled) c.loop-looked.tally c.args.links.now.nodes (standing c.loop-looked.links.lists c.loop-looked.ends) c.loop-looked.last
    c.loop-looked.looked c.in-Some.next c.in-Some.is c.loop-looked.invariant.looking (standing c.look_at.new.links.lists c.look_at.new.ends) c.look_at.ensures.standing in
    subst (λ k. IsEachOnce k c.look_at.new.links.lists) (sym nodes) on.each_once

pub count_behind-last-requires-clause-tallied : goal.count_behind-last-requires-clause-tallied
count_behind-last-requires-clause-tallied c =
    (looked_on (prerequisites_of c.args.tally.now) (ended c.args.node c.args.end (standing c.args.links.now.lists c.args.ends.now))
    (length c.args.links.now.lists.settled) c.loop-looked.tally c.args.links.now.nodes (standing c.loop-looked.links.lists c.loop-looked.ends) c.loop-looked.last
    c.loop-looked.looked c.in-Some.next c.in-Some.is c.loop-looked.invariant.looking (standing c.look_at.new.links.lists c.look_at.new.ends) c.look_at.ensures.standing).tallied

pub after-looked-requires : goal.after-looked-requires
after-looked-requires c =
    let below = looked_below (prerequisites_of c.args.tally.now) (ended c.args.node c.args.end (standing c.args.links.now.lists c.args.ends.now))
    (length c.args.links.now.lists.settled) c.loop-looked.tally c.args.links.now.nodes (standing c.loop-looked.links.lists c.loop-looked.ends) c.loop-looked.last
    c.loop-looked.looked c.in-Some.next c.in-Some.is c.loop-looked.invariant.looking in
    omega (arith, below, ap {A = Linked} (λ v. v.nodes) c.look_at.ensures.links, ap {A = Linked} (λ v. v.nodes) c.loop-looked.invariant.links)

pub loop-looked-smaller : goal.loop-looked-smaller
loop-looked-smaller c =
    (looked_on (prerequisites_of c.args.tally.now) (ended c.args.node c.args.end (standing c.args.links.now.lists c.args.ends.now))
    (length c.args.links.now.lists.settled) c.loop-looked.tally c.args.links.now.nodes (standing c.loop-looked.links.lists c.loop-looked.ends) c.loop-looked.last
    c.loop-looked.looked c.in-Some.next c.in-Some.is c.loop-looked.invariant.looking (standing c.look_at.new.links.lists c.look_at.new.ends) c.look_at.ensures.standing).less c.after-looked.result c.after-looked.ensures

pub loop-looked-preserved : goal.loop-looked-preserved
loop-looked-preserved c = record {
  links = c.look_at.ensures.links ∙ ap {A = Linked} {B = Linked} (λ v. record v { lists = c.look_at.new.links.lists }) c.loop-looked.invariant.links;
  looking =
      (looked_on (prerequisites_of c.args.tally.now) (ended c.args.node c.args.end (standing c.args.links.now.lists c.args.ends.now))
      (length c.args.links.now.lists.settled) c.loop-looked.tally c.args.links.now.nodes (standing c.loop-looked.links.lists c.loop-looked.ends) c.loop-looked.last
      c.loop-looked.looked c.in-Some.next c.in-Some.is c.loop-looked.invariant.looking (standing c.look_at.new.links.lists c.look_at.new.ends) c.look_at.ensures.standing).on
      c.count_behind-last.new.self c.count_behind-last.result c.after-looked.result
      c.count_behind-last.ensures.edges c.count_behind-last.ensures.tallied c.count_behind-last.ensures.last c.after-looked.ensures;
}

pub returns-clause-settles : goal.returns-clause-settles
returns-clause-settles c =
    looking_done (prerequisites_of c.args.tally.now) (ended c.args.node c.args.end (standing c.args.links.now.lists c.args.ends.now))
    (length c.args.links.now.lists.settled) c.loop-looked.tally c.args.links.now.nodes (standing c.loop-looked.links.lists c.loop-looked.ends) c.loop-looked.last
    (subst (λ o. Looking (prerequisites_of c.args.tally.now) (ended c.args.node c.args.end (standing c.args.links.now.lists c.args.ends.now)) (length c.args.links.now.lists.settled) c.loop-looked.tally c.args.links.now.nodes
    (standing c.loop-looked.links.lists c.loop-looked.ends) c.loop-looked.last o) c.in_default.is c.loop-looked.invariant.looking)
